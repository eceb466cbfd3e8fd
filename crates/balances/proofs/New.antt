-- The table of nothing.
use Rattle.std.proofs.Common.{◌≡◌, ℕ, ◌+◌, List, [], length, get_or, replicate, ap, ◌∙◌, ⊎_elim, arith}
use Rattle.std.proofs.lemmas.List.{get_or_past, get_or-replicate, length-replicate}
use Rattle.std.proofs.lemmas.Bool.{cases_lt}
use Rattle.book.specs.declared.Holding.{Holding}
use Rattle.book.specs.Holdings.{nothing}
use Rattle.book.proofs.Same.{holdings-same}
use Rattle.book.proofs.Sums.{sum_below-zero}
use Rattle.book.specs.Rulings.{no_holding}
use Rattle.balances.specs.Rows.{holding_in, amounts, IsWholeTable, KeepsCeiling}

abbrev pub fresh : List (List Holding)
fresh = replicate 16 (replicate 64 no_holding)

get_or-all : {X : Type 0} (n i : ℕ) (x : X) → get_or (replicate n x) i x ≡ x
get_or-all n i x =
    ⊎_elim (λ l. get_or-replicate n i x x l)
    (λ past. get_or_past (replicate n x) i x (omega (arith, length-replicate n x))) (cases_lt i n)

at-fresh : (a i : ℕ) → holding_in fresh a i ≡ no_holding
at-fresh a i =
    ⊎_elim (λ l. ap (λ r. get_or r a no_holding) (get_or-replicate 16 i (replicate 64 no_holding) [] l)
    ∙ get_or-all 64 a no_holding)
    (λ past. ap (λ r. get_or r a no_holding) (get_or_past fresh i []
    (omega (arith, length-replicate 16 (replicate 64 no_holding))))) (cases_lt i 16)

pub fresh-nothing : amounts fresh ≡ nothing
fresh-nothing = holdings-same (amounts fresh) nothing (λ a i. ap (λ h. h.free) (at-fresh a i))
    (λ a i. ap (λ h. h.blocked) (at-fresh a i))

pub fresh-full : IsWholeTable fresh
fresh-full = (
  length-replicate 16 (replicate 64 no_holding),
  λ i l. ap length
      (get_or-replicate 16 i (replicate 64 no_holding) [] l) ∙ length-replicate 64 no_holding,
)

pub fresh-within : KeepsCeiling fresh
fresh-within i = omega (arith, sum_below-zero 64 _ (λ a. ap (λ h. h.free + h.blocked) (at-fresh a i)))
