-- One amount changed, as a choice by account and item.
use Rattle.std.proofs.Common.{◌≡◌, ℕ, ◌+◌, ◌-◌, true, false, cond, ◌&&◌, eqb, ◌⊎◌, sym, refl, ap, ◌∙◌, inl, inr, ⊎_elim, arith}
use Rattle.std.proofs.lemmas.Bool.{eqb-true, eq-eqb, ne_eqb, cases_Bool, and_parts, and_right}
use Rattle.book.specs.Sums.{is_place}
use Rattle.book.specs.Holdings.{more_at, less_at}

-- either the account and the item are the ones meant, or nothing changes there
pub place-or-not : (A I a i : ℕ) → ((is_place A I a i ≡ true) × (A ≡ a) × (I ≡ i)) ⊎ (is_place A I a i ≡ false)
place-or-not A I a i =
    ⊎_elim (λ e. let p = and_parts (eqb A a) (eqb I i) e in inl (e, eqb-true A a p.0, eqb-true I i p.1))
    (λ e. inr e) (cases_Bool (is_place A I a i))

-- in the item meant, the account alone decides
pub place-in : (A I a : ℕ) → is_place A I a I ≡ eqb A a
place-in A I a = ap (λ t. eqb A a && t) (eq-eqb I I refl)
    ∙ elim (eqb A a) as (λ t. (t && true) ≡ t) [ true ↦ refl | false ↦ refl ]

-- no other item changes
pub place-not : (A I a i : ℕ) → (i ≡ I → ⊥) → is_place A I a i ≡ false
place-not A I a i ne = and_right (eqb A a) (eqb I i) (ne_eqb I i (λ w. ne (sym w)))

module _ (f : ℕ → ℕ → ℕ) (A I q a i : ℕ) where
  at-place : A ≡ a → I ≡ i → f A I ≡ f a i
  at-place x y = cc

  pub same-there : cond (is_place A I a i) (f A I) (f a i) ≡ f a i
  same-there = ⊎_elim (λ e. rw e.0 (at-place e.1 e.2)) (λ e. rw e) (place-or-not A I a i)

  pub more-there : cond (is_place A I a i) (f A I + q) (f a i) ≡ more_at f A I q a i
  more-there = ⊎_elim (λ e. rw e.0 (ap (λ n. n + q) (at-place e.1 e.2))) (λ e. rw e (omega arith)) (place-or-not A I a i)

  pub less-there : cond (is_place A I a i) (f A I - q) (f a i) ≡ less_at f A I q a i
  less-there = ⊎_elim (λ e. rw e.0 (ap (λ n. n - q) (at-place e.1 e.2))) (λ e. rw e (omega arith))
      (place-or-not A I a i)
