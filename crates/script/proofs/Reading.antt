-- A line is read as the request that it is the text of, by the law over lines.
use Rattle.std.proofs.Common.{◌≡◌, ℕ, suc, ◌^◌, ◌<◌, Bool, true, false, cond, eqb, List, [], ◌∷◌, map, get_or, Some, None, Option, sym, refl, ap, ◌∙◌, subst, rules}
use Rattle.std.specs.List.{AllByRecursion}
use Rattle.std.specs.Option.{ok_or}
use Rattle.std.proofs.lemmas.Bool.{eqb-true}
use Rattle.refusals.specs.Numbers.{numbered}
use Rattle.instruction.specs.declared.Kind.{Kind}
use Rattle.instruction.specs.declared.Instruction.{Instruction}
use Rattle.instruction.specs.Fields.{most_of, fields_of, instruction_with}
use Rattle.instruction.specs.Layout.{IsEncodable}
use Rattle.script.specs.declared.Position.{Position}
use Rattle.script.specs.declared.Request.{Request}
use Rattle.script.specs.declared.Request.TheVariants.{Instruct, Register, Cash, Cut}
use Rattle.script.specs.Words.{is_letter, Word, letter, first_word, after_word}
use Rattle.script.specs.Numerals.{largest_in}
use Rattle.script.specs.Requests.{and_then, numbers_in, instruction_of, position_of, cut_of, kind_for, request_for, request_after, request_of, request_in}
use Rattle.script.specs.LineLaw.{numbers_text, letter_of, byte_of, written_fields, omitted_fields, IsInstructionText, IsQuestionText, IsTextOf, ReadsLine}
use Rattle.script.proofs.Fields.{Seen, seen, first-letter, Within, fields-sound, fields-complete, within-at, then-some}
use Rattle.script.proofs.Cuts.{cut-sound, cut-complete}

-- the numbers at as many places as there are limits are all that are within the limits
abbrev picked : ℕ → List ℕ → List ℕ → List ℕ
picked i [] ns = []
picked i (m ∷ ms) ns = get_or ns i 0 ∷ picked (suc i) ms ns

picked-later : (i n : ℕ) (ms ns : List ℕ) → picked (suc i) ms (n ∷ ns) ≡ picked i ms ns
picked-later i n [] ns = refl
picked-later i n (m ∷ ms) ns = ap (λ l. get_or ns i 0 ∷ l) (picked-later (suc i) n ms ns)

picked-own : (ms ns : List ℕ) → Within ns ms → picked 0 ms ns ≡ ns
picked-own [] [] w = refl
picked-own [] (n ∷ ns) w = absurd w
picked-own (m ∷ ms) [] w = absurd w
picked-own (m ∷ ms) (n ∷ ns) w = ap (λ l. n ∷ l) (picked-later 0 n ms ns ∙ picked-own ms ns w.1)

-- the limits of each kind, and its instructions filled with numbers
abbrev limits : Kind → List ℕ
limits k = map most_of (fields_of k)

narrow-pair : AllByRecursion (λ m. m < 2 ^ 64) (largest_in 2 ∷ largest_in 2 ∷ [])
narrow-pair = search rules

narrow : (k : Kind) → AllByRecursion (λ m. m < 2 ^ 64) (limits k)
narrow k = search rules

used-filled : (k : Kind) (ns : List ℕ) → Within ns (limits k) → written_fields k (instruction_with k ns) ≡ ns
used-filled k ns w = search (rules, picked-own (limits k) ns w)

filled-code : (k : Kind) (ns : List ℕ) → (instruction_with k ns).kind ≡ byte_of k
filled-code k ns = search rules

abbrev Zeros : List ℕ → Type 0
Zeros ns = AllByRecursion (λ n. n ≡ 0) ns

filled-zeros : (k : Kind) (ns : List ℕ) → Zeros (omitted_fields k (instruction_with k ns))
filled-zeros k ns = search rules

filled-own : (k : Kind) (i : Instruction) → i.kind ≡ byte_of k → Zeros (omitted_fields k i)
    → i ≡ instruction_with k (written_fields k i)
filled-own k i e z = search rules

fits : (k : Kind) (i : Instruction) → i.kind ≡ byte_of k → Zeros (omitted_fields k i)
    → Within (written_fields k i) (limits k) → IsEncodable i
fits k i e z w = search rules

used-within : (k : Kind) (i : Instruction) → IsEncodable i → Within (written_fields k i) (limits k)
used-within k i f = search rules

-- what is read has the line as its text
filled-good : (k : Kind) (ns : List ℕ) → Within ns (limits k)
    → IsInstructionText (instruction_with k ns) (letter_of k ∷ numbers_text ns)
filled-good k ns w =
    let byte = filled-code k ns in
    let zeros = filled-zeros k ns in
    let own = used-filled k ns w in
    record {
      kind = k;
      byte = byte;
      zeros = zeros;
      fit = fits k (instruction_with k ns) byte zeros (subst (λ l. Within l (limits k)) (sym own) w);
      text = ap (λ l. letter_of k ∷ numbers_text l) (sym own);
    }

abbrev pair : List ℕ → Position
pair ns = record { account = get_or ns 0 0; item = get_or ns 1 0 }

pair-good : (c : ℕ) (ns : List ℕ) → Within ns (largest_in 2 ∷ largest_in 2 ∷ [])
    → IsQuestionText c (pair ns) (c ∷ numbers_text ns)
pair-good c ns w =
    let at = within-at ns (largest_in 2 ∷ largest_in 2 ∷ []) in
    record {
      account = search (rules, at 0 w);
      item = search (rules, at 1 w);
      text = ap (λ l. c ∷ numbers_text l) (sym (picked-own (largest_in 2 ∷ largest_in 2 ∷ []) ns w));
    }

-- a request made of the numbers of fields
made : {X : Type 0} (c : ℕ) (ms bs : List ℕ) (f : List ℕ → X) (make : X → Request) (q : Request) (o : Option (List ℕ))
    → ((ns : List ℕ) → o ≡ Some ns → (bs ≡ numbers_text ns) × Within ns ms)
    → ((ns : List ℕ) → Within ns ms → IsTextOf (make (f ns)) (c ∷ numbers_text ns))
    → and_then (and_then o (λ ns. Some (f ns))) (λ x. Some (make x)) ≡ Some q → IsTextOf q (c ∷ bs)
made c ms bs f make q (Some ns) s h e =
    let p = s ns refl in
    let z : make (f ns) ≡ q = cc in
    subst (λ r. IsTextOf r (c ∷ bs)) z (subst (λ l. IsTextOf (make (f ns)) (c ∷ l)) (sym p.0) (h ns p.1))
made c ms bs f make q None s h e = absurd cc

cut-good : (bs : List ℕ) (q : Request) → and_then (cut_of bs) (λ x. Some (Cut x)) ≡ Some q → IsTextOf q (67 ∷ bs)
cut-good bs q e =
    let p = then-some (cut_of bs) (λ x. Some (Cut x)) q e in
    let z : Cut p.0 ≡ q = cc in
    subst (λ r. IsTextOf r (67 ∷ bs)) z (cut-sound bs p.0 p.1)

for-good : (c : ℕ) (bs : List ℕ) (q : Request) (r k t : Bool) (o : Option Kind) → eqb c 81 ≡ r → eqb c 75 ≡ k
    → eqb c 67 ≡ t → kind_for c ≡ o
    → cond r (and_then (position_of bs) (λ p. Some (Register p)))
    (cond k (and_then (position_of bs) (λ p. Some (Cash p)))
    (cond t (and_then (cut_of bs) (λ x. Some (Cut x)))
    (and_then o (λ k. and_then (instruction_of k bs) (λ i. Some (Instruct i)))))) ≡ Some q
    → IsTextOf q (c ∷ bs)
for-good c bs q true k t o x y w z e =
    subst (λ d. IsTextOf q (d ∷ bs)) (sym (eqb-true c 81 x))
    (made 81 (largest_in 2 ∷ largest_in 2 ∷ []) bs pair (λ p. Register p) q _
    (λ ns. fields-sound _ bs ns narrow-pair) (pair-good 81) e)
for-good c bs q false true t o x y w z e =
    subst (λ d. IsTextOf q (d ∷ bs)) (sym (eqb-true c 75 y))
    (made 75 (largest_in 2 ∷ largest_in 2 ∷ []) bs pair (λ p. Cash p) q _
    (λ ns. fields-sound _ bs ns narrow-pair) (pair-good 75) e)
for-good c bs q false false true o x y w z e = subst (λ d. IsTextOf q (d ∷ bs)) (sym (eqb-true c 67 w))
    (cut-good bs q e)
for-good c bs q false false false (Some k) x y w z e =
    let own : c ≡ letter_of k = search rules in
    subst (λ d. IsTextOf q (d ∷ bs)) (sym own) (made (letter_of k) (limits k) bs (instruction_with k)
    (λ i. Instruct i) q _ (λ ns. fields-sound _ bs ns (narrow k)) (filled-good k) e)
for-good c bs q false false false None x y w z e = absurd cc

after-good : (bs : List ℕ) (q : Request) (w : Word) → Seen bs w → request_after w (after_word bs) ≡ Some q
    → IsTextOf q bs
after-good bs q (letter c) s e = subst (λ l. IsTextOf q l) (sym s)
    (for-good c (after_word bs) q (eqb c 81) (eqb c 75) (eqb c 67) (kind_for c) refl refl refl refl e)
after-good bs q w s e = search rules

-- each well-formed request is read off its text
at-letter : (c : ℕ) (bs : List ℕ) → is_letter c ≡ true → request_of (c ∷ bs) ≡ request_for c bs
at-letter c bs l = let f = first-letter c bs l in λ j. request_after (f.0 j) (f.1 j)

for-kind : (k : Kind) (bs : List ℕ) → request_for (letter_of k) bs ≡ and_then (instruction_of k bs) (λ i. Some
    (Instruct i))
for-kind k bs = search rules

kind-complete : (i : Instruction) (bs : List ℕ) → IsInstructionText i bs → request_of bs ≡ Some (Instruct i)
kind-complete i bs w =
    let k = w.kind in
    let own = written_fields k i in
    ap request_of w.text
    ∙ at-letter (letter_of k) (numbers_text own) (search rules)
    ∙ for-kind k (numbers_text own)
    ∙ ap (λ o. and_then (and_then o (λ ns. Some (instruction_with k ns))) (λ i. Some (Instruct i)))
    (fields-complete (limits k) own (narrow k) (used-within k i w.fit))
    ∙ ap (λ x. Some (Instruct x)) (sym (filled-own k i w.byte w.zeros))

pair-complete : (p : Position) → p.account < 2 ^ 16 → p.item < 2 ^ 16
    → numbers_in (largest_in 2 ∷ largest_in 2 ∷ []) (numbers_text (p.account ∷ p.item ∷ [])) ≡ Some
    (p.account ∷ p.item ∷ [])
pair-complete p a i = fields-complete (largest_in 2 ∷ largest_in 2 ∷ []) (p.account ∷ p.item ∷ []) narrow-pair
    (search rules)

request-complete : (q : Request) (bs : List ℕ) → IsTextOf q bs → request_of bs ≡ Some q
request-complete (Instruct i) bs w = kind-complete i bs w
request-complete (Register p) bs w =
    ap request_of w.text
    ∙ at-letter 81 (numbers_text (p.account ∷ p.item ∷ [])) refl
    ∙ ap (λ o. and_then (and_then o (λ ns. Some (pair ns))) (λ p. Some (Register p)))
    (pair-complete p w.account w.item)
request-complete (Cash p) bs w =
    ap request_of w.text
    ∙ at-letter 75 (numbers_text (p.account ∷ p.item ∷ [])) refl
    ∙ ap (λ o. and_then (and_then o (λ ns. Some (pair ns))) (λ p. Some (Cash p))) (pair-complete p w.account w.item)
request-complete (Cut x) bs w =
    ap request_of w.text
    ∙ at-letter 67 (numbers_text (x.calls_left ∷ x.remains)) refl
    ∙ ap (λ o. and_then o (λ x. Some (Cut x))) (cut-complete x w)

reads-as : (bs : List ℕ) (o : Option Request) → request_of bs ≡ o → ReadsLine bs (ok_or o (numbered 71))
reads-as bs (Some q) e = after-good bs q (first_word bs) (seen bs) e
reads-as bs None e = (refl, λ q w. absurd (let z : None ≡ Some q = sym e ∙ request-complete q bs w in cc))

pub reads-line : (bs : List ℕ) → ReadsLine bs (request_in bs)
unfolding request_in
reads-line bs = reads-as bs (request_of bs) refl
