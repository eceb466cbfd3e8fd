-- The remains of a line in their room: a few bytes, and zeros in the rest of it.
use Rattle.std.specs.Prelude.{◌≡◌, ℕ, ◌-◌, ◌≤◌, List, ◌++◌, length, drop, replicate}
use Rattle.script.specs.declared.TheConstants.{MOST_REMAINS}

-- bytes, and zeros after them
abbrev pub with_zeros : List ℕ → List ℕ
with_zeros ns = ns ++ replicate (MOST_REMAINS - length ns) 0

-- `count` of the bytes are given, and the others are zeros
pub record IsPadded (bytes : List ℕ) (count : ℕ) : Type 0 where
  pub full : length bytes ≡ MOST_REMAINS
  pub few : count ≤ MOST_REMAINS
  pub zeros : drop count bytes ≡ replicate (MOST_REMAINS - count) 0
