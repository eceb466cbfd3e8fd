-- Numbers in decimal, with no leading zero.
use Rattle.std.specs.Prelude.{◌≡◌, ℕ, ◌+◌, ◌-◌, ◌*◌, ◌^◌, ◌≤◌, List, [], ◌∷◌, Some, None, decimal, Option, if◌then◌else◌, ◌==◌, ◌≢◌, nat_le}
use Rattle.script.specs.Words.{is_digit}

-- the largest number of so many bytes
abbrev pub largest_in : ℕ → ℕ
largest_in bytes = 2 ^ (8 * bytes) - 1

-- the number that digits write after those of n, if it and all before it are at most `most`
abbrev pub numeral_from : ℕ → ℕ → List ℕ → Option ℕ
numeral_from most n [] = Some n
numeral_from most n (c ∷ cs) =
    if is_digit c
    then (if nat_le (n * 10 + (c - 48)) most
    then numeral_from most (n * 10 + (c - 48)) cs
    else None)
    else None

-- the number that a text writes: not empty, with no leading zero (48), at most `most`
abbrev pub numeral : ℕ → List ℕ → Option ℕ
numeral most [] = None
numeral most (c ∷ []) = numeral_from most 0 (c ∷ [])
numeral most (c ∷ d ∷ cs) = if c == 48 then None else numeral_from most 0 (c ∷ d ∷ cs)

-- what reading a number answers: the number whose decimal the text is, or nothing where it is that
-- of no number of at most `most`
abbrev pub ReadsNumber : ℕ → List ℕ → Option ℕ → Type 0
ReadsNumber most bs (Some n) = (bs ≡ decimal n) × (n ≤ most)
ReadsNumber most bs None = (n : ℕ) → n ≤ most → bs ≢ decimal n
