-- Lemmas on one lot: what all accounts have of it together, and that only accounts have it.
use Rattle.std.specs.Prelude.{◌≡◌, ℕ, ◌+◌, ◌≤◌, true, ◌==◌, nat_lt, refl}
use Rattle.std.proofs.Common.{ap, ◌∙◌, arith}
use Rattle.std.proofs.lemmas.Bool.{ltb-true, ne_eqb}
use Rattle.book.specs.declared.TheConstants.{ACCOUNTS}
use Rattle.book.specs.Sums.{sum_below, amount_if}
use Rattle.book.proofs.Sums.{sum_below-same, sum_below-zero}
use Rattle.book.proofs.Totals.{sum_below-sole}
use Rattle.lots.specs.declared.table.Lot.{Lot}
use Rattle.lots.specs.declared.table.Lot.TheVariants.{Unowned, Free, Blocked}
use Rattle.lots.specs.Owners.{free_of, blocked_of, owner_is_account}

-- how often a lot is there
abbrev pub count : Lot → ℕ
count Unowned = 0
count (Free owner) = 1
count (Blocked owner) = 1

pub total-lot : (l : Lot) → owner_is_account l ≡ true
    → sum_below ACCOUNTS (λ a. free_of l a + blocked_of l a) ≡ count l
total-lot Unowned e = sum_below-zero ACCOUNTS _ (λ a. refl)
total-lot (Free owner) e =
    sum_below-same ACCOUNTS _ (λ a. amount_if (owner == a) 1) (λ a l. omega arith)
    ∙ sum_below-sole ACCOUNTS owner 1 (ltb-true owner ACCOUNTS e)
total-lot (Blocked owner) e =
    sum_below-same ACCOUNTS _ (λ a. amount_if (owner == a) 1) (λ a l. omega arith)
    ∙ sum_below-sole ACCOUNTS owner 1 (ltb-true owner ACCOUNTS e)

pub count-le : (l : Lot) → count l ≤ 1
count-le Unowned = omega arith
count-le (Free owner) = omega arith
count-le (Blocked owner) = omega arith

stranger : (owner a : ℕ) → nat_lt owner ACCOUNTS ≡ true → ACCOUNTS ≤ a
    → amount_if (owner == a) 1 ≡ 0
stranger owner a e l =
    let m = ltb-true owner ACCOUNTS e in
    ap (λ t. amount_if t 1) (ne_eqb owner a (λ w. omega arith))

pub free-stranger : (l : Lot) (a : ℕ) → owner_is_account l ≡ true → ACCOUNTS ≤ a → free_of l a ≡ 0
free-stranger Unowned a e l = refl
free-stranger (Free owner) a e l = stranger owner a e l
free-stranger (Blocked owner) a e l = refl

pub blocked-stranger : (l : Lot) (a : ℕ) → owner_is_account l ≡ true → ACCOUNTS ≤ a
    → blocked_of l a ≡ 0
blocked-stranger Unowned a e l = refl
blocked-stranger (Free owner) a e l = refl
blocked-stranger (Blocked owner) a e l = stranger owner a e l
