-- The fields of a line, against their text.
use Rattle.std.proofs.Common.{◌≡◌, ℕ, ◌^◌, ◌<◌, ◌≤◌, true, false, List, [], ◌∷◌, ◌++◌, length, get_or, Some, None, decimal, Option, refl, ap, ◌∙◌, subst, arith, rules}
use Rattle.std.specs.List.{prefix_len, AllByRecursion}
use Rattle.std.proofs.lemmas.List.{take-append-drop, take_at, drop_at, nil_from_length}
use Rattle.std.proofs.lemmas.Fmt.{digits_decimal, decimal_nonempty}
use Rattle.script.specs.Words.{is_digit, is_letter, Word, letter, digits, space, other, end, first_word, after_word}
use Rattle.script.specs.Requests.{number_in, field_in, field_of, after_field, and_then, numbers_in}
use Rattle.script.specs.LineLaw.{numbers_text}
use Rattle.script.proofs.Num.{AllDigits, own, sound, complete}

-- a text begins with its first word
abbrev pub Seen : List ℕ → Word → Type 0
Seen bs (letter c) = bs ≡ c ∷ after_word bs
Seen bs (digits ds) = bs ≡ ds ++ after_word bs
Seen bs space = bs ≡ 32 ∷ after_word bs
Seen bs other = Unit {0}
Seen bs end = bs ≡ []

pub first-letter : (c : ℕ) (cs : List ℕ) → is_letter c ≡ true
    → (first_word (c ∷ cs) ≡ letter c) × (after_word (c ∷ cs) ≡ cs)
first-letter c cs l = search rules

first-space : (cs : List ℕ) → (first_word (32 ∷ cs) ≡ space) × (after_word (32 ∷ cs) ≡ cs)
first-space cs = search rules

pub seen : (bs : List ℕ) → Seen bs (first_word bs)
seen [] = refl
seen (c ∷ cs) = search (rules, take-append-drop)

number-sound : (most n : ℕ) (bs : List ℕ) (w : Word) → most < 2 ^ 64 → Seen bs w → number_in most w ≡ Some n
    → (bs ≡ decimal n ++ after_word bs) × (n ≤ most)
number-sound most n bs (digits ds) h s e = let p = sound most n ds h e in search rules
number-sound most n bs w h s e = search rules

field-in-sound : (most n : ℕ) (bs : List ℕ) (w : Word) → most < 2 ^ 64 → Seen bs w
    → field_in most w (after_word bs) ≡ Some n
    → (bs ≡ 32 ∷ (decimal n ++ after_word (after_word bs))) × (n ≤ most)
field-in-sound most n bs space h s e = let p = number-sound most n (after_word bs) (first_word (after_word bs)) h
    (seen (after_word bs)) e in search rules
field-in-sound most n bs w h s e = search rules

pub field-sound : (most n : ℕ) (bs : List ℕ) → most < 2 ^ 64 → field_of most bs ≡ Some n
    → (bs ≡ 32 ∷ (decimal n ++ after_field bs)) × (n ≤ most)
unfolding field_of after_field
field-sound most n bs h e = field-in-sound most n bs (first_word bs) h (seen bs) e

-- what may follow digits
abbrev Stops : List ℕ → Type 0
Stops [] = Unit {0}
Stops (c ∷ cs) = is_digit c ≡ false

pub stops : (ns : List ℕ) → Stops (numbers_text ns)
stops [] = tt
stops (n ∷ ns) = refl

leading-all : (ds ys : List ℕ) → AllDigits ds → Stops ys → prefix_len is_digit (ds ++ ys) ≡ length ds
leading-all [] [] a s = refl
leading-all [] (y ∷ ys) a s = search rules
leading-all (d ∷ ds) ys a s = let i = leading-all ds ys a.1 s in search rules

word-digits : (ds ys : List ℕ) → AllDigits ds → 0 < length ds → Stops ys
    → (first_word (ds ++ ys) ≡ digits ds) × (after_word (ds ++ ys) ≡ ys)
word-digits [] ys a h s = absurd (omega arith)
word-digits (d ∷ ds) ys a h s = let i = leading-all ds ys a.1 s in search
    (rules, take_at (d ∷ ds) ys, drop_at (d ∷ ds) ys)

pub field-complete : (most n : ℕ) (ys : List ℕ) → most < 2 ^ 64 → n ≤ most → Stops ys
    → (field_of most (32 ∷ (decimal n ++ ys)) ≡ Some n) × (after_field (32 ∷ (decimal n ++ ys)) ≡ ys)
unfolding field_of after_field
field-complete most n ys h l s =
    let k : n < 2 ^ 64 = omega arith in
    let w = word-digits (decimal n) ys (digits_decimal own n k) (decimal_nonempty n k) s in
    let f = first-space (decimal n ++ ys) in
    ((λ k. field_in most (f.0 k) (f.1 k)) ∙ ap (number_in most) w.0 ∙ complete most n h l, ap after_word f.1 ∙ w.1)

-- as many numbers as limits, each within its own
abbrev pub Within : List ℕ → List ℕ → Type 0
Within [] [] = Unit {0}
Within [] (m ∷ ms) = ⊥
Within (n ∷ ns) [] = ⊥
Within (n ∷ ns) (m ∷ ms) = (n ≤ m) × Within ns ms

pub then-some : {X Y : Type 0} (o : Option X) (f : X → Option Y) (y : Y) → and_then o f ≡ Some y
    → (x : X) × (o ≡ Some x) × (f x ≡ Some y)
then-some (Some x) f y e = (x, refl, e)
then-some None f y e = absurd cc

pub fields-sound : (ms bs ns : List ℕ) → AllByRecursion (λ m. m < 2 ^ 64) ms → numbers_in ms bs ≡ Some ns
    → (bs ≡ numbers_text ns) × Within ns ms
fields-sound [] bs ns a e = search (rules, nil_from_length)
fields-sound (m ∷ ms) bs ns a e =
    let p = then-some (field_of m bs) (λ n. and_then (numbers_in ms (after_field bs)) (λ ns. Some (n ∷ ns))) ns e in
    let q = then-some (numbers_in ms (after_field bs)) (λ more. Some (p.0 ∷ more)) ns p.2 in
    let f = field-sound m p.0 bs a.0 p.1 in
    let r = fields-sound ms (after_field bs) q.0 a.1 q.1 in
    let z : p.0 ∷ q.0 ≡ ns = cc in
    subst (λ l. (bs ≡ numbers_text l) × Within l (m ∷ ms)) z (f.0 ∙ ap (λ x. 32 ∷ (decimal p.0 ++ x)) r.0, (f.1, r.1))

pub fields-complete : (ms ns : List ℕ) → AllByRecursion (λ m. m < 2 ^ 64) ms → Within ns ms
    → numbers_in ms (numbers_text ns) ≡ Some ns
fields-complete [] [] a w = refl
fields-complete [] (n ∷ ns) a w = absurd w
fields-complete (m ∷ ms) [] a w = absurd w
fields-complete (m ∷ ms) (n ∷ ns) a w =
    let f = field-complete m n (numbers_text ns) a.0 w.0 (stops ns) in
    ap (λ o. and_then o
    (λ x. and_then (numbers_in ms (after_field (numbers_text (n ∷ ns)))) (λ xs. Some (x ∷ xs)))) f.0
    ∙ ap (λ b. and_then (numbers_in ms b) (λ xs. Some (n ∷ xs))) f.1
    ∙ ap (λ o. and_then o (λ xs. Some (n ∷ xs))) (fields-complete ms ns a.1 w.1)

pub within-at : (ns ms : List ℕ) (i : ℕ) → Within ns ms → get_or ns i 0 ≤ get_or ms i 0
within-at [] [] i w = omega arith
within-at [] (m ∷ ms) i w = absurd w
within-at (n ∷ ns) [] i w = absurd w
within-at (n ∷ ns) (m ∷ ms) i w = search (rules, within-at ns ms)
