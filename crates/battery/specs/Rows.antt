-- The rows of a battery-backed device's image: in each, byte 0 is 0 if the block is readable, and
-- the block's bytes follow.
use Rattle.std.specs.Prelude.{ℕ, Bool, false, List, ◌∷◌}

-- no block is ever loose
abbrev pub never_loose : List ℕ → Bool
never_loose r = false

abbrev pub row_after_write : (r bytes : List ℕ) → List ℕ
row_after_write r bytes = 0 ∷ bytes
