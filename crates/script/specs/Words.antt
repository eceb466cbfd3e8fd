-- The tokens of a line.
use Rattle.std.specs.Prelude.{ℕ, Bool, ◌&&◌, List, length, take, drop, if◌then◌else◌, ◌==◌, nat_le, slice_index}
use Rattle.std.specs.List.{prefix_len}
use Rattle.script.specs.declared.Token.{Token}
use Rattle.script.specs.declared.Token.TheVariants.{Letter, Digits, Space, Other, End}

abbrev pub is_digit : ℕ → Bool
is_digit c = nat_le 48 c && nat_le c 57

abbrev pub is_letter : ℕ → Bool
is_letter c = nat_le 65 c && nat_le c 90

-- a token, without where its bytes lie
pub data Word : Type 0 where
  letter : ℕ → Word
  digits : List ℕ → Word
  space : Word
  other : Word
  end : Word

abbrev pub word_of : Token → Word
word_of (Letter c) = letter c.now
word_of (Digits p) = digits p.now
word_of Space = space
word_of Other = other
word_of End = end

-- the first token of a text: a capital letter, a longest run of digits, a space (32), or any other
-- byte
abbrev pub first_word : List ℕ → Word
first_word bs =
    if length bs == 0 then end
    else (if is_letter (slice_index bs 0) then letter (slice_index bs 0)
    else (if is_digit (slice_index bs 0) then digits (take (prefix_len is_digit bs) bs)
    else (if slice_index bs 0 == 32 then space else other)))

-- how many bytes it has
abbrev pub word_length : List ℕ → ℕ
word_length bs =
    if length bs == 0 then 0
    else (if is_letter (slice_index bs 0) then 1
    else (if is_digit (slice_index bs 0) then prefix_len is_digit bs else 1))

-- what follows it
abbrev pub after_word : List ℕ → List ℕ
after_word bs = drop (word_length bs) bs
