-- What a question within a book's range is answered.
use Rattle.std.proofs.Common.{◌≡◌, ℕ, ◌+◌, ◌<◌, ◌≤◌, Ok, ap, arith}
use Rattle.std.proofs.lemmas.Bool.{lt-leb}
use Rattle.book.specs.declared.Holding.{Holding}
use Rattle.book.specs.Sums.{sum_below}
use Rattle.book.specs.Holdings.{Holdings, BookKind, total}
use Rattle.book.specs.Rulings.{amount_answer, holding_of}
use Rattle.book.proofs.Sums.{sum_below-next-le}

pub answer-within : {X : Type 0} (k : BookKind) (f : ℕ → ℕ → X) (a i : ℕ) → a < 64 → i < k.items
    → amount_answer k f a i ≡ Ok (f a i)
answer-within k f a i la li = rw (lt-leb 64 a la, lt-leb k.items i li)

pub holding-is : (k : BookKind) (b : Holdings) (a i : ℕ) (h : Holding) → a < 64 → i < k.items
    → Ok h ≡ amount_answer k (holding_of b) a i → h ≡ holding_of b a i
holding-is k b a i h la li e = let w = answer-within k (holding_of b) a i la li in cc

-- an account's amounts, with those of the accounts before it, are within the item's total
pub amount-fits : (b : Holdings) (a i : ℕ) (h : Holding) (sum most : ℕ) → a < 64 → h ≡ holding_of b a i
    → total b i ≤ most
    → sum ≡ sum_below a (λ a. b.free a i + b.blocked a i) → sum + (h.free + h.blocked) ≤ most
amount-fits b a i h sum most l e w s =
    let n = sum_below-next-le 64 a (λ a. b.free a i + b.blocked a i) l in
    let f : h.free ≡ b.free a i = ap (λ h. h.free) e in
    let g : h.blocked ≡ b.blocked a i = ap (λ h. h.blocked) e in
    omega arith
