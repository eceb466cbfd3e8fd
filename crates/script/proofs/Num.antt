use Rattle.std.proofs.Common.{◌≡◌, ℕ, ◌+◌, ◌-◌, ◌*◌, ◌^◌, ◌<◌, ◌≤◌, true, false, leb, le-leb, List, [], ◌∷◌, length, get_or, Some, None, Ok, Err, decimal, Option, Result, sym, refl, ap, ◌∙◌, subst, lit<, arith, rules}
use Rattle.std.specs.Bool.{then_some}
use Rattle.std.proofs.lemmas.Str.Parse.{IsNumeralModel, numerals_by_fold}
use Rattle.std.proofs.lemmas.Fmt.{decimal_injective, decimal-digits_value, digits_decimal, digits_value-decimal, decimal_nonempty, first_decimal, decimal_digit}
use Rattle.std.proofs.lemmas.Bool.{and_from, lt-leb}
use Rattle.script.specs.Words.{is_digit}
use Rattle.script.specs.Numerals.{largest_in, numeral_from, numeral, ReadsNumber}
use Rattle.script.specs.Requests.{and_then}

-- the digits of a text, and the number that they write after those of n
abbrev pub read_on : ℕ → List ℕ → ℕ
read_on n [] = n
read_on n (c ∷ cs) = read_on (n * 10 + (c - 48)) cs

abbrev pub AllDigits : List ℕ → Type 0
AllDigits [] = Unit {0}
AllDigits (c ∷ cs) = ((48 ≤ c) × (c ≤ 57)) × AllDigits cs

pub own : IsNumeralModel AllDigits (read_on 0)
own = numerals_by_fold AllDigits (search rules) read_on (search rules)

read_on-ge : (n : ℕ) (cs : List ℕ) → n ≤ read_on n cs
read_on-ge n [] = omega arith
read_on-ge n (c ∷ cs) = omega (arith, read_on-ge (n * 10 + (c - 48)) cs)

-- what a numeral is, from its parts
from-sound : (most n m : ℕ) (cs : List ℕ) → n ≤ most → numeral_from most n cs ≡ Some m
    → AllDigits cs × (read_on n cs ≡ m) × (m ≤ most)
from-sound most n m [] h e = search rules
from-sound most n m (c ∷ cs) h e = search (rules, from-sound most (n * 10 + (c - 48)) m cs)

from-complete : (most n : ℕ) (cs : List ℕ) → AllDigits cs → read_on n cs ≤ most
    → numeral_from most n cs ≡ Some (read_on n cs)
from-complete most n [] d h = refl
from-complete most n (c ∷ cs) d h =
    let g = read_on-ge (n * 10 + (c - 48)) cs in search (rules, from-complete most (n * 10 + (c - 48)) cs)

pub start : (most : ℕ) (ds : List ℕ) → 0 < length ds → (1 < length ds → get_or ds 0 0 ≡ 48 → ⊥)
    → numeral_from most 0 ds ≡ numeral most ds
start most ds h z = search rules

no-zero : (ds : List ℕ) (n : ℕ) → n < 2 ^ 64 → ds ≡ decimal n → 1 < length ds → get_or ds 0 0 ≡ 48 → ⊥
no-zero ds n h e l z = search (rules, decimal_digit n, first_decimal n)

numeral-parts : (most n : ℕ) (ds : List ℕ) → numeral most ds ≡ Some n
    → (0 < length ds) × (get_or ds 0 0 ≡ 48 → length ds ≡ 1) × (numeral_from most 0 ds ≡ Some n)
numeral-parts most n ds e = search rules

pub sound : (most n : ℕ) (bs : List ℕ) → most < 2 ^ 64 → numeral most bs ≡ Some n → (bs ≡ decimal n) × (n ≤ most)
sound most n bs h e =
    let p = numeral-parts most n bs e in
    let q = from-sound most 0 n bs (omega arith) p.2 in
    (sym (ap decimal (sym q.1) ∙ decimal-digits_value own bs q.0 p.0 p.1 (omega (arith, q.1, q.2))), q.2)

pub complete : (most n : ℕ) → most < 2 ^ 64 → n ≤ most → numeral most (decimal n) ≡ Some n
complete most n h l =
    let k : n < 2 ^ 64 = omega arith in
    let v = digits_value-decimal own n k in
    sym (start most (decimal n) (decimal_nonempty n k) (no-zero (decimal n) n k refl))
    ∙ from-complete most 0 (decimal n) (digits_decimal own n k) (omega arith) ∙ ap (λ m. Some m) v

pub reads-number : (most : ℕ) (bs : List ℕ) (r : Option ℕ) → most < 2 ^ 64 → r ≡ numeral most bs → ReadsNumber most bs r
reads-number most bs r h e =
    let s : (n : ℕ) → numeral most bs ≡ Some n → (bs ≡ decimal n) × (n ≤ most) = λ n. sound most n bs h in
    let k : (n : ℕ) → n ≤ most → numeral most (decimal n) ≡ Some n = λ n. complete most n h in
    search (rules, s, k)

-- what is read is one thing
no-other : {X : Type 0} (o : Option X) → ((x : X) → o ≡ Some x → ⊥) → None ≡ o
no-other o h = search rules

pub numeral-only : (most : ℕ) (bs : List ℕ) (r : Option ℕ) → most < 2 ^ 64 → ReadsNumber most bs r
    → r ≡ numeral most bs
numeral-only most bs (Some n) h e = sym (ap (numeral most) e.0 ∙ complete most n h e.1)
numeral-only most bs None h e = no-other (numeral most bs) (λ n z. let p = sound most n bs h z in e n p.1 p.0)

-- a smaller limit
reads-below : (most : ℕ) (bs : List ℕ) (o : Option ℕ) → most < 2 ^ 64 → ReadsNumber (largest_in 8) bs o
    → ReadsNumber most bs (and_then o (λ n. then_some (leb n most) n))
reads-below most bs o h e = search (rules, decimal_injective)

pub number-below : (most : ℕ) (bs : List ℕ) → most < 2 ^ 64
    → ReadsNumber most bs (and_then (numeral (largest_in 8) bs) (λ n. then_some (leb n most) n))
number-below most bs h = reads-below most bs _ h (reads-number (largest_in 8) bs _ (lit< tt) refl)

pub numeral-below : (most : ℕ) (bs : List ℕ) → most < 2 ^ 64
    → and_then (numeral (largest_in 8) bs) (λ n. then_some (leb n most) n) ≡ numeral most bs
numeral-below most bs h = numeral-only most bs _ h (number-below most bs h)

-- what the next byte of a text makes of the number so far
digit-yes : (c : ℕ) → 48 ≤ c → c ≤ 57 → is_digit c ≡ true
digit-yes c h k = and_from (leb 48 c) (leb c 57) (le-leb 48 c h) (le-leb c 57 k)

pub turn : (most n c : ℕ) (cs : List ℕ) → 48 ≤ c → c ≤ 57 → n * 10 + (c - 48) ≤ most
    → numeral_from most n (c ∷ cs) ≡ numeral_from most (n * 10 + (c - 48)) cs
turn most n c cs h k l = let a = digit-yes c h k in let b = le-leb (n * 10 + (c - 48)) most l in rw (a, b)

pub stray : (most n c : ℕ) (cs : List ℕ) → is_digit c ≡ false → numeral_from most n (c ∷ cs) ≡ None
stray most n c cs e = rw e

pub over : (most n c : ℕ) (cs : List ℕ) → 48 ≤ c → c ≤ 57 → most < n * 10 + (c - 48)
    → numeral_from most n (c ∷ cs) ≡ None
over most n c cs h k l = let a = digit-yes c h k in let b = lt-leb (n * 10 + (c - 48)) most l in rw (a, b)
