-- What a contract sees of a ledger, and where a ledger stands.
use Rattle.std.specs.Prelude.{◌≡◌, ℕ, List, [], map, Some, Ok, Err, Result, slice_index_or}
use Rattle.std.specs.List.{range_with_len}
use Rattle.refusals.specs.declared.Refusal.{Refusal}
use Rattle.refusals.specs.declared.Fault.{Fault}
use Rattle.instruction.specs.declared.Kind.{Kind}
use Rattle.instruction.specs.declared.Instruction.{Instruction}
use Rattle.book.specs.declared.Book as book
use Rattle.book.specs.declared.TheConstants.{ACCOUNTS}
use Rattle.book.specs.declared.Holding.{Holding}
use Rattle.book.specs.Holdings.{Holdings, BookKind}
use Rattle.book.specs.Rulings.{no_holding, amount_answer, holding_of, outcome}
use Rattle.rulebook.specs.declared.Trade.{Trade}
use Rattle.ledger.specs.declared.parts.Parts.{Parts}
use Rattle.rulebook.specs.Terms.{Side, securities, cash}
use Rattle.rulebook.specs.Table.{Act}
use Rattle.rulebook.specs.Rules.{Rulebook, Standing, deed}
use Rattle.ledger.specs.Rows.{state_at, terms_at}

-- one value for the register, one for the cash book
abbrev pub both_sides : {X : Type 0} → X → X → Side → X
both_sides r c securities = r
both_sides r c cash = c

-- the rule book of a register and a cash book of these kinds
abbrev pub rulebook_of : BookKind → BookKind → Rulebook
rulebook_of r c = record { book_kind = both_sides r c }

-- where a ledger stands that has these two books and this table of trades
abbrev pub standing_between : Holdings → Holdings → List Trade → Standing
standing_between r c rows =
    record { book = both_sides r c; state = state_at rows; terms = terms_at rows }

-- a book's amounts as a table: a row for each account, and in it a holding for each item
abbrev pub HoldingTable : Type 0
HoldingTable = List (List Holding)

-- an account or an item that is not in the table has nothing
abbrev pub holding_in : HoldingTable → ℕ → ℕ → Holding
holding_in t account item = slice_index_or (slice_index_or t account []) item no_holding

abbrev pub holdings_in : HoldingTable → Holdings
holdings_in t = record {
  free = λ a i. (holding_in t a i).free;
  blocked = λ a i. (holding_in t a i).blocked;
}

unfoldable pub table_of : BookKind → Holdings → HoldingTable
table_of k b =
    map (λ a. map (holding_of b a) (range_with_len 0 k.items)) (range_with_len 0 ACCOUNTS)

-- A ledger, as a contract sees it.
pub record Tables : Type 0 where
  pub register : HoldingTable
  pub cash : HoldingTable
  pub trades : List Trade

abbrev pub tables_in : {R C : Type 0} → book.Ghosts R → book.Ghosts C → Parts R C → Tables
tables_in r c p = record {
  register = table_of r.book_kind (r.holdings p.register);
  cash = table_of c.book_kind (c.holdings p.cash);
  trades = p.trades.rows;
}

-- where a ledger stands
abbrev pub standing_of : Tables → Standing
standing_of t = standing_between (holdings_in t.register) (holdings_in t.cash) t.trades

-- the same of its parts, by what each book means
abbrev pub standing_in : {R C : Type 0} → book.Ghosts R → book.Ghosts C → Parts R C → Standing
standing_in r c p = standing_between (r.holdings p.register) (c.holdings p.cash) p.trades.rows

-- the book of one side after an instruction of kind k, its trade being this one
abbrev pub book_after : BookKind → Side → Act → Instruction → Trade → Holdings → Holdings
book_after bk d k x trade b = outcome bk b (deed k d trade.state trade.terms x)

-- an instruction of kind k: its kind where the rules' answer to it is yes, else the answer's fault
abbrev pub IsKindOrFault : Act → Result (Unit {0}) Fault → Result Kind Fault → Type 0
IsKindOrFault k answer (Ok kind) = (k ≡ Some kind) × (answer ≡ Ok tt)
IsKindOrFault k answer (Err fault) = answer ≡ Err fault

-- the answer to the question of what an account has of an item of side d's book
abbrev pub holding_question : Rulebook → Standing → Side → ℕ → ℕ → Result Holding Refusal
holding_question h s d account item =
    amount_answer (h.book_kind d) (holding_of (s.book d)) account item
