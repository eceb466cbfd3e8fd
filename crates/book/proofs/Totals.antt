-- What a deed does to an item's total over all accounts.
use Rattle.std.proofs.Common.{◌≡◌, ℕ, ◌+◌, ◌<◌, ◌≤◌, true, false, ◌&&◌, eqb, sym, refl, ap, ◌∙◌, ⊎_elim, arith}
use Rattle.std.proofs.lemmas.Bool.{eqb-true, eq-eqb, ne_eqb, cases_Bool, and_parts}
use Rattle.book.specs.Sums.{sum_below, amount_if, is_place}
use Rattle.book.specs.Holdings.{Holdings, total, apply, crediting, blocking, releasing, moving}
use Rattle.book.proofs.Sums.{sum_below-same, sum_below-change, sum_below-plus, sum_below-zero, sum_below-le}

-- what is there at the place covers what is taken anywhere
pub enough : (f : ℕ → ℕ → ℕ) (A I q a i : ℕ) → q ≤ f A I → amount_if (is_place A I a i) q ≤ f a i
enough f A I q a i l =
    ⊎_elim (λ e. let p = and_parts (eqb A a) (eqb I i) e in
    let x = eqb-true A a p.0 in
    let y = eqb-true I i p.1 in
    let z : f A I ≡ f a i = cc in
    rw e (omega arith))
    (λ e. rw e (omega arith)) (cases_Bool (is_place A I a i))

pub sum_below-only : (n A I i q : ℕ) → A < n → sum_below n (λ a. amount_if (is_place A I a i) q) ≡ amount_if
    (eqb I i) q
sum_below-only n A I i q l =
    let m = sum_below-change n A (λ a. 0) (λ a. amount_if (is_place A I a i) q) l
    (λ k ne. let z = ne_eqb A k (λ w. ne (sym w)) in rw z) in
    let z = sum_below-zero n (λ a. 0) (λ k. refl) in
    let g : amount_if (is_place A I A i) q ≡ amount_if (eqb I i) q = ap (λ v. amount_if (v && eqb I i) q)
    (eq-eqb A A refl) in
    omega arith

-- one account has all there is
pub sum_below-sole : (n A q : ℕ) → A < n → sum_below n (λ a. amount_if (eqb A a) q) ≡ q
sum_below-sole n A q l =
    let m = sum_below-change n A (λ a. 0) (λ a. amount_if (eqb A a) q) l
    (λ k ne. let z = ne_eqb A k (λ w. ne (sym w)) in rw z) in
    let z = sum_below-zero n (λ a. 0) (λ k. refl) in
    let g : amount_if (eqb A A) q ≡ q = ap (λ t. amount_if t q) (eq-eqb A A refl) in
    omega arith

-- all amounts change by m down and p up
pub total-step : (b c : Holdings) (i : ℕ) (m p : ℕ → ℕ)
    → ((a : ℕ) → c.free a i + c.blocked a i + m a ≡ b.free a i + b.blocked a i + p a)
    → total c i + sum_below 64 m ≡ total b i + sum_below 64 p
total-step b c i m p h =
    sym (sum_below-plus 64 (λ a. c.free a i + c.blocked a i) m) ∙ sum_below-same 64 _ _ (λ a l. h a)
    ∙ sum_below-plus 64 (λ a. b.free a i + b.blocked a i) p

-- an account's amounts are within the item's total
pub amount-le-total : (b : Holdings) (a i : ℕ) → a < 64 → b.free a i + b.blocked a i ≤ total b i
amount-le-total b a i l = sum_below-le 64 a (λ a. b.free a i + b.blocked a i) l

module _ (b : Holdings) (A I q i : ℕ) where
  pub total-credit : A < 64 → total (apply b (crediting A I q)) i ≡ total b i + amount_if (eqb I i) q
  total-credit l =
      let t = total-step b (apply b (crediting A I q)) i (λ a. 0) (λ a. amount_if (is_place A I a i) q)
      (λ a. omega arith) in
      omega (arith, t, sum_below-zero 64 (λ a. 0) (λ k. refl), sum_below-only 64 A I i q l)

  pub total-block : q ≤ b.free A I → total (apply b (blocking A I q)) i ≡ total b i
  total-block l = sum_below-same 64 _ _ (λ a k. omega (arith, enough b.free A I q a i l))

  pub total-release : q ≤ b.blocked A I → total (apply b (releasing A I q)) i ≡ total b i
  total-release l = sum_below-same 64 _ _ (λ a k. omega (arith, enough b.blocked A I q a i l))

  pub total-move : (B : ℕ) → A < 64 → B < 64 → q ≤ b.blocked A I → total (apply b (moving A B I q)) i ≡ total b i
  total-move B la lb l =
      let t = total-step b (apply b (moving A B I q)) i (λ a. amount_if (is_place A I a i) q)
      (λ a. amount_if (is_place B I a i) q) (λ a. omega (arith, enough b.blocked A I q a i l)) in
      omega (arith, t, sum_below-only 64 A I i q la, sum_below-only 64 B I i q lb)

  -- a credit that passed its check keeps every total
  pub credit-below : (top : ℕ) → A < 64 → total b I + q ≤ top → total b i ≤ top
      → total (apply b (crediting A I q)) i ≤ top
  credit-below top l h k =
      ⊎_elim (λ (e : eqb I i ≡ true).
      let w : total b I ≡ total b i = ap (total b) (eqb-true I i e) in
      let o : amount_if (eqb I i) q ≡ q = ap (λ v. amount_if v q) e in
      omega (arith, total-credit l))
      (λ (e : eqb I i ≡ false).
      let o : amount_if (eqb I i) q ≡ 0 = ap (λ v. amount_if v q) e in
      omega (arith, total-credit l)) (cases_Bool (eqb I i))
