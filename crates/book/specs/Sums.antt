-- Sums over the numbers below n, and an amount that counts only where a test holds.
use Rattle.std.specs.Prelude.{ℕ, zero, suc, ◌+◌, Bool, true, false, ◌&&◌, ◌==◌}

-- f 0 + f 1 + .. + f (n - 1)
unfoldable pub sum_below : ℕ → (ℕ → ℕ) → ℕ
sum_below zero f = 0
sum_below (suc n) f = sum_below n f + f n

-- the amount q where the test holds, and 0 elsewhere
abbrev pub amount_if : Bool → ℕ → ℕ
amount_if true q = q
amount_if false q = 0

-- the account a and the item i are the account A and the item I
abbrev pub is_place : ℕ → ℕ → ℕ → ℕ → Bool
is_place A I a i = A == a && I == i
