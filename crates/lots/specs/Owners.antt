-- A table of lots: each is whole, with one account or with none.
use Rattle.std.specs.Prelude.{◌≡◌, ℕ, Bool, true, List, length, ◌==◌, nat_lt, slice_index_or}
use Rattle.book.specs.declared.TheConstants.{ACCOUNTS}
use Rattle.book.specs.Sums.{amount_if}
use Rattle.book.specs.Holdings.{Holdings, BookKind}
use Rattle.lots.specs.declared.table.TheConstants.{ITEMS, CEILING}
use Rattle.lots.specs.declared.table.Lot.{Lot}
use Rattle.lots.specs.declared.table.Lot.TheVariants.{Unowned, Free, Blocked}

abbrev pub lots_kind : BookKind
lots_kind = record { code = 2; items = ITEMS; ceiling = CEILING }

-- what an account has of a lot
abbrev pub free_of : Lot → ℕ → ℕ
free_of Unowned account = 0
free_of (Free owner) account = amount_if (owner == account) 1
free_of (Blocked owner) account = 0

abbrev pub blocked_of : Lot → ℕ → ℕ
blocked_of Unowned account = 0
blocked_of (Free owner) account = 0
blocked_of (Blocked owner) account = amount_if (owner == account) 1

-- the lot of an item: no one has one outside the table
abbrev pub lot_at : List Lot → ℕ → Lot
lot_at lots item = slice_index_or lots item Unowned

-- what the table means
abbrev pub amounts : List Lot → Holdings
amounts lots = record {
  free = λ account item. free_of (lot_at lots item) account;
  blocked = λ account item. blocked_of (lot_at lots item) account;
}

-- the table has a lot for each item
abbrev pub IsWholeTable : List Lot → Type 0
IsWholeTable lots = length lots ≡ ITEMS

-- the lot's owner, if it has one, is one of the accounts
abbrev pub owner_is_account : Lot → Bool
owner_is_account Unowned = true
owner_is_account (Free owner) = nat_lt owner ACCOUNTS
owner_is_account (Blocked owner) = nat_lt owner ACCOUNTS

abbrev pub AccountsOwn : List Lot → Type 0
AccountsOwn lots = (item : ℕ) → owner_is_account (lot_at lots item) ≡ true
