-- A kind byte, case by case.
use Rattle.std.proofs.Common.{◌≡◌, ℕ, ◌≤◌, true, false, eqb, Some, None, sym, subst, ⊎_elim, arith}
use Rattle.std.proofs.lemmas.Bool.{eqb-true, eqb-false, cases_Bool}
use Rattle.instruction.specs.declared.Kind.TheVariants.{Issue, PayIn, Enter, Earmark, Fund, Settle, Free}
use Rattle.instruction.specs.Kinds.{kind_at}
use Rattle.rulebook.specs.Table.{Act}

-- P holds of every byte with its kind if it holds of the seven kinds with theirs, and of no kind
-- with any other byte
module _ (P : Act → ℕ → Type 0) (issue : P (Some Issue) 1) (pay-in : P (Some PayIn) 2) (enter : P (Some Enter) 3)
    (earmark : P (Some Earmark) 4) (fund : P (Some Fund) 5) (settle : P (Some Settle) 6) (free : P (Some Free) 7)
    (none : (n : ℕ) → (3 ≤ n → n ≤ 7 → ⊥) → P None n) where
  here : (n m : ℕ) (k : Act) → P k m → eqb n m ≡ true → P k n
  here n m k p y = subst (λ j. P k j) (sym (eqb-true n m y)) p

  pub by-byte : (n : ℕ) → P (kind_at n) n
  by-byte n =
      ⊎_elim (λ (y : eqb n 1 ≡ true). rw y (here n 1 (Some Issue) issue y)) (λ (y1 : eqb n 1 ≡ false). rw y1 (
      ⊎_elim (λ (y : eqb n 2 ≡ true). rw y (here n 2 (Some PayIn) pay-in y)) (λ (y2 : eqb n 2 ≡ false). rw y2 (
      ⊎_elim (λ (y : eqb n 3 ≡ true). rw y (here n 3 (Some Enter) enter y)) (λ (y3 : eqb n 3 ≡ false). rw y3 (
      ⊎_elim (λ (y : eqb n 4 ≡ true). rw y (here n 4 (Some Earmark) earmark y)) (λ (y4 : eqb n 4 ≡ false). rw y4 (
      ⊎_elim (λ (y : eqb n 5 ≡ true). rw y (here n 5 (Some Fund) fund y)) (λ (y5 : eqb n 5 ≡ false). rw y5 (
      ⊎_elim (λ (y : eqb n 6 ≡ true). rw y (here n 6 (Some Settle) settle y)) (λ (y6 : eqb n 6 ≡ false). rw y6 (
      ⊎_elim (λ (y : eqb n 7 ≡ true). rw y (here n 7 (Some Free) free y)) (λ (y7 : eqb n 7 ≡ false). rw y7 (
      none n (λ l m. omega
      (arith, eqb-false n 3 y3, eqb-false n 4 y4, eqb-false n 5 y5, eqb-false n 6 y6, eqb-false n 7 y7))))
      (cases_Bool (eqb n 7)))) (cases_Bool (eqb n 6)))) (cases_Bool (eqb n 5)))) (cases_Bool (eqb n 4))))
      (cases_Bool (eqb n 3)))) (cases_Bool (eqb n 2)))) (cases_Bool (eqb n 1))
