-- A table of balances: a row for each item, and in it the accounts' holdings.
use Rattle.std.specs.Prelude.{◌≡◌, ℕ, ◌<◌, ◌≤◌, List, [], length, slice_index_or}
use Rattle.book.specs.declared.TheConstants.{ACCOUNTS}
use Rattle.book.specs.declared.Holding.{Holding}
use Rattle.book.specs.Holdings.{Holdings, BookKind, total, limit}
use Rattle.book.specs.Rulings.{no_holding}
use Rattle.balances.specs.declared.table.TheConstants.{ITEMS, CEILING}

abbrev pub balances_kind : BookKind
balances_kind = record { code = 1; items = ITEMS; ceiling = CEILING }

-- what an account has of an item: nothing outside the table
abbrev pub holding_in : List (List Holding) → ℕ → ℕ → Holding
holding_in rows account item = slice_index_or (slice_index_or rows item []) account no_holding

-- what the table means
abbrev pub amounts : List (List Holding) → Holdings
amounts rows = record {
  free = λ account item. (holding_in rows account item).free;
  blocked = λ account item. (holding_in rows account item).blocked;
}

-- the table has a row for each item, and each row a holding for each account
abbrev pub IsWholeTable : List (List Holding) → Type 0
IsWholeTable rows =
    (length rows ≡ ITEMS)
    × ((item : ℕ) → item < ITEMS → length (slice_index_or rows item []) ≡ ACCOUNTS)

-- no item's total passes its limit
abbrev pub KeepsCeiling : List (List Holding) → Type 0
KeepsCeiling rows =
    (item : ℕ) → total (amounts rows) item ≤ limit balances_kind (amounts rows) item
