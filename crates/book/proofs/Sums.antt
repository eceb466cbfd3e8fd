-- Sums over the numbers below n.
use Rattle.std.proofs.Common.{◌≡◌, ℕ, zero, suc, ◌+◌, ◌<◌, ◌≤◌, sym, refl, ap, ⊎_elim, add-one, arith}
use Rattle.std.proofs.lemmas.Bool.{cases_eq}
use Rattle.book.specs.Sums.{sum_below}

pub sum_below-same : (n : ℕ) (f g : ℕ → ℕ) → ((k : ℕ) → k < n → f k ≡ g k) → sum_below n f ≡ sum_below n g
unfolding sum_below
sum_below-same zero f g h = refl
sum_below-same (suc n) f g h = omega (arith, sum_below-same n f g (λ k l. h k (omega arith)), h n (omega arith))

-- one term may differ
pub sum_below-change : (n t : ℕ) (f g : ℕ → ℕ) → t < n → ((k : ℕ) → (k ≡ t → ⊥) → f k ≡ g k)
    → sum_below n g + f t ≡ sum_below n f + g t
unfolding sum_below
sum_below-change zero t f g l h = omega arith
sum_below-change (suc n) t f g l h =
    ⊎_elim (λ e. let s = sum_below-same n f g (λ k m. h k (omega arith)) in
    let p : f t ≡ f n = ap f (sym e) in
    let q : g t ≡ g n = ap g (sym e) in omega arith)
    (λ ne. omega (arith, sum_below-change n t f g (omega arith) h, h n ne)) (cases_eq n t)

pub sum_below-le : (n t : ℕ) (f : ℕ → ℕ) → t < n → f t ≤ sum_below n f
unfolding sum_below
sum_below-le zero t f l = omega arith
sum_below-le (suc n) t f l =
    ⊎_elim (λ e. let q : f t ≡ f n = ap f (sym e) in omega arith)
    (λ ne. omega (arith, sum_below-le n t f (omega arith))) (cases_eq n t)

pub sum_below-zero : (n : ℕ) (f : ℕ → ℕ) → ((k : ℕ) → f k ≡ 0) → sum_below n f ≡ 0
unfolding sum_below
sum_below-zero zero f h = refl
sum_below-zero (suc n) f h = omega (arith, sum_below-zero n f h, h n)

pub sum_below-plus : (n : ℕ) (f g : ℕ → ℕ) → sum_below n (λ k. f k + g k) ≡ sum_below n f + sum_below n g
unfolding sum_below
sum_below-plus zero f g = refl
sum_below-plus (suc n) f g = omega (arith, sum_below-plus n f g)

pub sum_below-none : (f : ℕ → ℕ) → sum_below 0 f ≡ 0
unfolding sum_below
sum_below-none f = refl

pub sum_below-more : (n : ℕ) (f : ℕ → ℕ) → sum_below (n + 1) f ≡ sum_below n f + f n
unfolding sum_below
sum_below-more n f = rw add-one

-- a sum that is not yet complete stays below the whole, with its next term
pub sum_below-next-le : (n k : ℕ) (f : ℕ → ℕ) → k < n → sum_below k f + f k ≤ sum_below n f
unfolding sum_below
sum_below-next-le zero k f l = omega arith
sum_below-next-le (suc n) k f l =
    ⊎_elim (λ (e : n ≡ k). let p : sum_below n f ≡ sum_below k f = ap
    (λ m. sum_below m f) e in let q : f n ≡ f k = ap f e in omega arith)
    (λ ne. omega (arith, sum_below-next-le n k f (omega arith))) (cases_eq n k)
