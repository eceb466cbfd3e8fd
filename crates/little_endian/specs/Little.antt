-- Numbers as bytes, the lowest byte first, for every width.
use Rattle.std.specs.Prelude.{◌≡◌, ℕ, zero, suc, ◌+◌, ◌*◌, ◌/◌, ◌%◌, ◌^◌, ◌<◌, List, [], ◌∷◌, length, slice_index}
use Rattle.std.specs.List.{AllByRecursion}

-- the number that a string of bytes means
abbrev pub le_number : List ℕ → ℕ
le_number [] = 0
le_number (b ∷ bs) = b + 2 ^ 8 * le_number bs

-- the w lowest bytes of n
abbrev pub le_bytes : ℕ → ℕ → List ℕ
le_bytes zero n = []
le_bytes (suc w) n = (n % 2 ^ 8) ∷ le_bytes w (n / 2 ^ 8)

-- the w bytes from place `at` on
abbrev pub bytes_from : ℕ → ℕ → List ℕ → List ℕ
bytes_from at zero bs = []
bytes_from at (suc w) bs = slice_index bs at ∷ bytes_from (suc at) w bs

-- what is written is read back, and what is read is written back
pub record EveryWidth : Type 0 where
  pub written : (w n : ℕ) → n < (2 ^ 8) ^ w → le_number (le_bytes w n) ≡ n
  pub read :
      (bs : List ℕ) → AllByRecursion (λ b. b < 2 ^ 8) bs → le_bytes (length bs) (le_number bs) ≡ bs
