-- Two books with the same amounts are the same.
use Rattle.std.proofs.Common.{◌≡◌, ℕ}
use Rattle.book.specs.Holdings.{Holdings}

pub holdings-same : (b c : Holdings) → ((a i : ℕ) → b.free a i ≡ c.free a i)
    → ((a i : ℕ) → b.blocked a i ≡ c.blocked a i) → b ≡ c
holdings-same b c p q = λ k. record { free = λ a i. p a i k; blocked = λ a i. q a i k }
