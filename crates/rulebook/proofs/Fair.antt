-- Sums over all trades when one trade changes.
use Rattle.std.proofs.Common.{◌≡◌, ℕ, ◌+◌, ◌<◌, Bool, true, false, eqb, sym, refl, ap, ◌∙◌, ⊎_elim, arith}
use Rattle.std.proofs.lemmas.Bool.{eqb-true, eq-eqb, ne_eqb, cases_Bool, cond-true, cond-false}
use Rattle.book.specs.Sums.{amount_if}
use Rattle.book.proofs.Sums.{sum_below-same, sum_below-change}
use Rattle.rulebook.specs.declared.State.{State}
use Rattle.rulebook.specs.declared.State.TheVariants.{Entered}
use Rattle.rulebook.specs.declared.Terms.{Terms}
use Rattle.rulebook.specs.Rules.{set_at}
use Rattle.rulebook.proofs.Replay.{over}

-- when one trade changes its state, its term alone changes in the sum
pub shift : (c : State → Terms → ℕ) (st : ℕ → State) (tm : ℕ → Terms) (t : ℕ) (old new : State) → st t ≡ old
    → t < 128 → over c (set_at st t new) tm + c old (tm t) ≡ over c st tm + c new (tm t)
shift c st tm t old new e l =
    let m = sum_below-change 128 t (λ u. c (st u) (tm u)) (λ u. c (set_at st t new u) (tm u)) l
    (λ k ne. let z = ne_eqb t k (λ w. ne (sym w)) in ap (λ o. c o (tm k)) (sym (cond-false (eqb t k) new (st k) z))) in
    let f : c (st t) (tm t) ≡ c old (tm t) = ap (λ o. c o (tm t)) e in
    let g : c (set_at st t new t) (tm t) ≡ c new (tm t) = ap (λ o. c o (tm t))
    (cond-true (eqb t t) new (st t) (eq-eqb t t refl)) in
    omega arith

-- a trade that is entered adds nothing to the sum
pub enters : (c : State → Terms → ℕ) (old : State) → ((m : Terms) → c old m ≡ 0) → ((m : Terms) → c Entered m ≡ 0)
    → (st : ℕ → State) (tm : ℕ → Terms) (t : ℕ) (m : Terms) → st t ≡ old
    → over c (set_at st t Entered) (set_at tm t m) ≡ over c st tm
enters c old zn ze st tm t m e =
    sum_below-same 128 _ _ (λ u l.
    ⊎_elim (λ (y : eqb t u ≡ true).
    let w = eqb-true t u y in
    let p : c (st u) (tm u) ≡ c old (tm u) = ap (λ o. c o (tm u)) (ap st (sym w) ∙ e) in
    rw y (ze m ∙ sym (zn (tm u)) ∙ sym p))
    (λ (y : eqb t u ≡ false). rw y) (cases_Bool (eqb t u)))

-- the same for a quantity that counts only in the states that pass a test
pub shift-if : (p : State → Bool) (q : Terms → ℕ) (st : ℕ → State) (tm : ℕ → Terms) (t : ℕ) (old new : State)
    (po pn : Bool) → p old ≡ po → p new ≡ pn → st t ≡ old → t < 128
    → over (λ s m. amount_if (p s) (q m)) (set_at st t new) tm + amount_if po (q (tm t)) ≡ over
    (λ s m. amount_if (p s) (q m)) st tm + amount_if pn (q (tm t))
shift-if p q st tm t old new po pn eo en e l =
    let m = shift (λ s m. amount_if (p s) (q m)) st tm t old new e l in
    let f : amount_if (p old) (q (tm t)) ≡ amount_if po (q (tm t)) = ap (λ o. amount_if o (q (tm t))) eo in
    let g : amount_if (p new) (q (tm t)) ≡ amount_if pn (q (tm t)) = ap (λ o. amount_if o (q (tm t))) en in
    omega arith
