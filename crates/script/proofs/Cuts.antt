-- The remains of a cut, against their text, and one after the other.
use Rattle.std.proofs.Common.{◌≡◌, ℕ, zero, suc, ◌-◌, ◌^◌, ◌<◌, ◌≤◌, List, [], ◌∷◌, ◌++◌, length, Some, None, decimal, Option, sym, refl, ap, ◌∙◌, subst, append_assoc, append-nil, length-append, lit<, arith, rules}
use Rattle.std.specs.List.{AllByRecursion}
use Rattle.std.proofs.lemmas.List.{nil_from_length}
use Rattle.script.specs.declared.TheConstants.{MOST_REMAINS}
use Rattle.script.specs.declared.Cut.{Cut as PowerCut}
use Rattle.script.specs.Numerals.{largest_in}
use Rattle.script.specs.Requests.{field_of, after_field, and_then, at_line_end, remains_in, cut_of}
use Rattle.script.specs.LineLaw.{numbers_text, IsCutText}
use Rattle.script.proofs.Fields.{field-sound, field-complete, then-some, stops}

-- what the reader's loop keeps: these are read, and what is left gives those that follow
abbrev pub Going : List ℕ → List ℕ → List ℕ → Type 0
Going read start rest = remains_in MOST_REMAINS start ≡ and_then (remains_in (MOST_REMAINS - length read) rest)
    (λ rs. Some (read ++ rs))

none-left : (n : ℕ) (bs : List ℕ) → length bs ≡ 0 → remains_in n bs ≡ Some []
unfolding remains_in
none-left zero bs h = search rules
none-left (suc n) bs h = search rules

one-more : (n : ℕ) (bs : List ℕ) → 0 < length bs
    → remains_in (suc n) bs ≡ and_then (field_of (largest_in 1) bs)
    (λ r. and_then (remains_in n (after_field bs)) (λ rs. Some (r ∷ rs)))
unfolding remains_in
one-more n bs h = search rules

no-field : (n : ℕ) (bs : List ℕ) → 0 < length bs → field_of (largest_in 1) bs ≡ None → remains_in n bs ≡ None
unfolding remains_in
no-field zero bs h f = search rules
no-field (suc n) bs h f = search rules

no-room : (bs : List ℕ) → 0 < length bs → remains_in 0 bs ≡ None
unfolding remains_in
no-room bs h = search rules

put-on : (o : Option (List ℕ)) (r : ℕ) (read : List ℕ)
    → and_then (and_then o (λ rs. Some (r ∷ rs))) (λ rs. Some (read ++ rs)) ≡ and_then o
    (λ rs. Some ((read ++ r ∷ []) ++ rs))
put-on (Some rs) r read = ap (λ l. Some l) (sym (append_assoc read (r ∷ []) rs))
put-on None r read = refl

pub going-more : (read start rest : List ℕ) (r : ℕ) → Going read start rest → 0 < length rest
    → length read < MOST_REMAINS → field_of (largest_in 1) rest ≡ Some r
    → Going (read ++ r ∷ []) start (after_field rest)
going-more read start rest r g h l f =
    let e : MOST_REMAINS - length read ≡ suc (MOST_REMAINS - length (read ++ r ∷ [])) = omega
    (arith, length-append read (r ∷ [])) in
    g
    ∙ ap (λ n. and_then (remains_in n rest) (λ rs. Some (read ++ rs))) e
    ∙ ap (λ o. and_then o (λ rs. Some (read ++ rs))) (one-more (MOST_REMAINS - length (read ++ r ∷ [])) rest h)
    ∙ ap (λ o. and_then
    (and_then o (λ x. and_then (remains_in (MOST_REMAINS - length (read ++ r ∷ [])) (after_field rest))
    (λ rs. Some (x ∷ rs)))) (λ rs. Some (read ++ rs))) f
    ∙ put-on (remains_in (MOST_REMAINS - length (read ++ r ∷ [])) (after_field rest)) r read

ended-some : {X : Type 0} (bs : List ℕ) (x : X) → length bs ≡ 0 → Some x ≡ at_line_end bs x
ended-some bs x h = search rules

pub going-end : (read start rest : List ℕ) → Going read start rest → length rest ≡ 0
    → remains_in MOST_REMAINS start ≡ at_line_end rest read
going-end read start rest g h =
    g ∙ ap (λ o. and_then o (λ rs. Some (read ++ rs))) (none-left (MOST_REMAINS - length read) rest h)
    ∙ ap (λ l. Some l) (append-nil read) ∙ ended-some rest read h

pub going-no-field : (read start rest : List ℕ) → Going read start rest → 0 < length rest
    → field_of (largest_in 1) rest ≡ None → remains_in MOST_REMAINS start ≡ None
going-no-field read start rest g h f = g ∙ ap (λ o. and_then o (λ rs. Some (read ++ rs))) (no-field
    (MOST_REMAINS - length read) rest h f)

pub going-full : (read start rest : List ℕ) → Going read start rest → 0 < length rest → MOST_REMAINS ≤ length read
    → remains_in MOST_REMAINS start ≡ None
going-full read start rest g h l =
    let e : MOST_REMAINS - length read ≡ 0 = omega arith in
    g ∙ ap (λ n. and_then (remains_in n rest) (λ rs. Some (read ++ rs))) e
    ∙ ap (λ o. and_then o (λ rs. Some (read ++ rs))) (no-room rest h)

-- what is read is the text of that many bytes
pub remains-sound : (n : ℕ) (bs rs : List ℕ) → remains_in n bs ≡ Some rs
    → (bs ≡ numbers_text rs) × (length rs ≤ n) × AllByRecursion (λ r. r < 2 ^ 8) rs
unfolding remains_in
remains-sound zero bs rs e = search (rules, nil_from_length)
remains-sound (suc n) [] rs e = search rules
remains-sound (suc n) (c ∷ cs) rs e =
    let bs = c ∷ cs in
    let p = then-some (field_of (largest_in 1) bs)
    (λ r. and_then (remains_in n (after_field bs)) (λ more. Some (r ∷ more))) rs
    (sym (one-more n bs (omega arith)) ∙ e) in
    let q = then-some (remains_in n (after_field bs)) (λ more. Some (p.0 ∷ more)) rs p.2 in
    let f = field-sound (largest_in 1) p.0 bs (lit< tt) p.1 in
    let r = remains-sound n (after_field bs) q.0 q.1 in
    let z : p.0 ∷ q.0 ≡ rs = cc in
    subst (λ l. (bs ≡ numbers_text l) × (length l ≤ suc n) × AllByRecursion (λ r. r < 2 ^ 8) l) z
    (f.0 ∙ ap (λ x. 32 ∷ (decimal p.0 ++ x)) r.0, omega (arith, r.1), (omega (arith, f.1), r.2))

pub remains-complete : (n : ℕ) (rs : List ℕ) → length rs ≤ n → AllByRecursion (λ r. r < 2 ^ 8) rs
    → remains_in n (numbers_text rs) ≡ Some rs
unfolding remains_in
remains-complete zero [] l b = refl
remains-complete (suc n) [] l b = refl
remains-complete zero (r ∷ rs) l b = absurd (omega arith)
remains-complete (suc n) (r ∷ rs) l b =
    let f = field-complete (largest_in 1) r (numbers_text rs) (lit< tt) (omega (arith, b.0)) (stops rs) in
    one-more n (numbers_text (r ∷ rs)) (omega arith)
    ∙ ap (λ o. and_then o
    (λ x. and_then (remains_in n (after_field (numbers_text (r ∷ rs)))) (λ xs. Some (x ∷ xs)))) f.0
    ∙ ap (λ b. and_then (remains_in n b) (λ xs. Some (r ∷ xs))) f.1
    ∙ ap (λ o. and_then o (λ xs. Some (r ∷ xs))) (remains-complete n rs (omega arith) b.1)

abbrev cut : ℕ → List ℕ → PowerCut
cut q rs = record { calls_left = q; remains = rs }

pub cut-sound : (bs : List ℕ) (x : PowerCut) → cut_of bs ≡ Some x → IsCutText x (67 ∷ bs)
cut-sound bs x e =
    let p = then-some (field_of (largest_in 4) bs)
    (λ q. and_then (remains_in MOST_REMAINS (after_field bs)) (λ rs. Some (cut q rs))) x e in
    let r = then-some (remains_in MOST_REMAINS (after_field bs)) (λ rs. Some (cut p.0 rs)) x p.2 in
    let f = field-sound (largest_in 4) p.0 bs (lit< tt) p.1 in
    let s = remains-sound MOST_REMAINS (after_field bs) r.0 r.1 in
    let own : cut p.0 r.0 ≡ x = cc in
    let text : bs ≡ numbers_text (p.0 ∷ r.0) = f.0 ∙ ap (λ more. 32 ∷ (decimal p.0 ++ more)) s.0 in
    subst (λ y. IsCutText y (67 ∷ bs)) own
    (record { calls_left = omega (arith, f.1); few = s.1; bytes = s.2; text = ap (λ l. 67 ∷ l) text })

pub cut-complete : {bs : List ℕ} (x : PowerCut) → IsCutText x bs
    → cut_of (numbers_text (x.calls_left ∷ x.remains)) ≡ Some x
cut-complete x w =
    let f = field-complete (largest_in 4) x.calls_left (numbers_text x.remains) (lit< tt)
    (omega (arith, w.calls_left)) (stops x.remains) in
    ap (λ o. and_then o
    (λ q. and_then (remains_in MOST_REMAINS (after_field (numbers_text (x.calls_left ∷ x.remains))))
    (λ rs. Some (cut q rs)))) f.0
    ∙ ap (λ bs. and_then (remains_in MOST_REMAINS bs) (λ rs. Some (cut x.calls_left rs))) f.1
    ∙ ap (λ o. and_then o (λ rs. Some (cut x.calls_left rs))) (remains-complete MOST_REMAINS x.remains w.few w.bytes)
