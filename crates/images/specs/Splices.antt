-- Bytes written over others.
use Rattle.std.specs.Prelude.{ℕ, ◌+◌, List, ◌++◌, length, take, drop}

-- xs, with ys over what stood from place i on
abbrev pub splice : (xs : List ℕ) (i : ℕ) (ys : List ℕ) → List ℕ
splice xs i ys = take i xs ++ (ys ++ drop (i + length ys) xs)
