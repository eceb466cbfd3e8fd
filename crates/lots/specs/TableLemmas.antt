-- Lemmas on a table of lots: an item totals one lot at most, and nothing is outside the table.
use Rattle.std.specs.Prelude.{◌≡◌, ℕ, ◌≤◌, ◌⊎◌, List}
use Rattle.std.proofs.Common.{ap, ⊎_elim, arith}
use Rattle.std.proofs.lemmas.List.{get_or_past}
use Rattle.book.specs.declared.TheConstants.{ACCOUNTS}
use Rattle.book.specs.Holdings.{total}
use Rattle.lots.specs.declared.table.TheConstants.{ITEMS, CEILING}
use Rattle.lots.specs.declared.table.Lot.{Lot}
use Rattle.lots.specs.declared.table.Lot.TheVariants.{Unowned}
use Rattle.lots.specs.Owners.{free_of, blocked_of, lot_at, amounts, IsWholeTable, AccountsOwn}
use Rattle.lots.specs.LotLemmas.{count, total-lot, count-le, free-stranger, blocked-stranger}

pub total-is : (lots : List Lot) → AccountsOwn lots
    → (i : ℕ) → total (amounts lots) i ≡ count (lot_at lots i)
total-is lots owned i = total-lot (lot_at lots i) (owned i)

pub one-lot : (lots : List Lot) → AccountsOwn lots → (i : ℕ) → total (amounts lots) i ≤ CEILING
one-lot lots owned i = omega (arith, total-is lots owned i, count-le (lot_at lots i))

none-past : (lots : List Lot) → IsWholeTable lots → (i : ℕ) → ITEMS ≤ i → lot_at lots i ≡ Unowned
none-past lots whole i past = get_or_past lots i Unowned (omega arith)

pub free-outside : (lots : List Lot) → IsWholeTable lots → AccountsOwn lots
    → (a i : ℕ) → (ACCOUNTS ≤ a) ⊎ (ITEMS ≤ i) → free_of (lot_at lots i) a ≡ 0
free-outside lots whole owned a i out =
    ⊎_elim (λ (l : ACCOUNTS ≤ a). free-stranger (lot_at lots i) a (owned i) l)
    (λ (l : ITEMS ≤ i). ap (λ x. free_of x a) (none-past lots whole i l)) out

pub blocked-outside : (lots : List Lot) → IsWholeTable lots → AccountsOwn lots
    → (a i : ℕ) → (ACCOUNTS ≤ a) ⊎ (ITEMS ≤ i) → blocked_of (lot_at lots i) a ≡ 0
blocked-outside lots whole owned a i out =
    ⊎_elim (λ (l : ACCOUNTS ≤ a). blocked-stranger (lot_at lots i) a (owned i) l)
    (λ (l : ITEMS ≤ i). ap (λ x. blocked_of x a) (none-past lots whole i l)) out
