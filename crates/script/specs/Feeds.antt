-- A text as lines: a line feed (10) ends each, and may be missing after the last.
use Rattle.std.specs.Prelude.{◌≡◌, ℕ, Bool, not, List, [], ◌∷◌, ◌++◌, take, drop, if◌then◌else◌, ◌==◌, ◌≢◌}
use Rattle.std.specs.List.{prefix_len, flat_map, AllByRecursion}
use Rattle.script.specs.declared.Lines.{Lines}

-- a byte that is no line feed
abbrev pub in_line : ℕ → Bool
in_line c = not (c == 10)

-- the bytes before the first line feed
abbrev pub first_line : List ℕ → List ℕ
first_line bs = take (prefix_len in_line bs) bs

-- what follows that line feed
abbrev pub after_line : List ℕ → List ℕ
after_line bs = drop 1 (drop (prefix_len in_line bs) bs)

-- the lines with a byte before the first of them
abbrev pub with_first_byte : ℕ → List (List ℕ) → List (List ℕ)
with_first_byte c [] = (c ∷ []) ∷ []
with_first_byte c (l ∷ ls) = (c ∷ l) ∷ ls

-- the lines of a text
unfoldable pub lines_of : List ℕ → List (List ℕ)
lines_of [] = []
lines_of (c ∷ cs) = if c == 10 then [] ∷ lines_of cs else with_first_byte c (lines_of cs)

-- the lines that `Lines` has left
abbrev pub lines_left : Lines → List (List ℕ)
lines_left it = lines_of it.rest.now

-- a text with the line feed that its last line lacks
abbrev pub with_last_feed : List ℕ → List ℕ
with_last_feed [] = []
with_last_feed (c ∷ []) = if c == 10 then c ∷ [] else c ∷ 10 ∷ []
with_last_feed (c ∷ d ∷ cs) = c ∷ with_last_feed (d ∷ cs)

-- No line holds a line feed, and the lines with a line feed after each are the text, but for the
-- line feed that the last line may lack.
pub record Splits (bs : List ℕ) (ls : List (List ℕ)) : Type 0 where
  pub unbroken : AllByRecursion (AllByRecursion (λ c. c ≢ 10)) ls
  pub whole : flat_map (λ l. l ++ (10 ∷ [])) ls ≡ with_last_feed bs
