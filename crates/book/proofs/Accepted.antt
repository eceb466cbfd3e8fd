-- What an accepted deed tells of its book, and what it leaves.
use Rattle.std.proofs.Common.{◌≡◌, ℕ, ◌+◌, ◌<◌, ◌≤◌, Bool, true, false, cond, ◌||◌, eqb, ltb, leb, List, [], ◌∷◌, Ok, Err, Result, refl, sym, ap, ◌∙◌, arith}
use Rattle.std.proofs.lemmas.Bool.{leb-false, ltb-false, eqb-false, lt-leb, le-ltb, ne_eqb, or_parts}
use Rattle.refusals.specs.declared.Refusal.{Refusal}
use Rattle.refusals.specs.declared.Refusal.TheVariants.{NoAccount, NoItem, NoQuantity}
use Rattle.book.specs.Holdings.{Holdings, BookKind, total, limit, Deed, no_change, crediting, blocking, releasing, moving, apply}
use Rattle.refusals.specs.Answers.{if_ok}
use Rattle.book.specs.Rulings.{Check, ◌refuses◌, first_refusal, checks, ruling, outcome, amount_answer, cover_answer}
use Rattle.book.proofs.Questions.{answer-within}
use Rattle.book.proofs.Totals.{credit-below, total-block, total-release, total-move}

pass : (t : Bool) (e : Refusal) (r : Result (Unit {0}) Refusal) → Ok tt ≡ cond t (Err e) r → (t ≡ false) × (Ok tt ≡ r)
pass true e r p = absurd cc
pass false e r p = (refl, p)

given : {X : Type 0} (s t : Bool) (x y : X) → Ok x ≡ cond s (Err NoAccount) (cond t (Err NoItem) (Ok y))
    → (s ≡ false) × (t ≡ false) × (x ≡ y)
given true t x y e = absurd cc
given false true x y e = absurd cc
given false false x y e = (refl, refl, cc)

pub outcome-ok : (k : BookKind) (b : Holdings) (w : Deed) → Ok tt ≡ ruling k b w → apply b w ≡ outcome k b w
outcome-ok k b w e = ap (λ r. if_ok r (apply b w) b) e

-- a question that is answered lies within the book
pub answer-ok : {X : Type 0} (k : BookKind) (f : ℕ → ℕ → X) (a i : ℕ) (x : X) → Ok x ≡ amount_answer k f a i
    → (a < 64) × (i < k.items) × (x ≡ f a i)
answer-ok k f a i x e = let p = given (leb 64 a) (leb k.items i) x
    (f a i) e in (leb-false 64 a p.0, leb-false k.items i p.1, p.2)

-- what is answered of the whole is answered of a part of it
pub answer-part : {X Y : Type 0} (g : X → Y) (k : BookKind) (f : ℕ → ℕ → X) (a i : ℕ) (x : X)
    → Ok x ≡ amount_answer k f a i → Ok (g x) ≡ amount_answer k (λ a i. g (f a i)) a i
answer-part g k f a i x e =
    let p = answer-ok k f a i x e in
    ap (λ y. Ok (g y)) p.2 ∙ sym (answer-within k (λ a i. g (f a i)) a i p.0 p.1)

pub covers-ok : (n q : ℕ) (short : Refusal) → Ok tt ≡ cover_answer n q short → (0 < q) × (q ≤ n)
covers-ok n q short e =
    let p = pass (eqb q 0) NoQuantity (cond (ltb n q) (Err short) (Ok tt)) e in
    let r = pass (ltb n q) short (Ok tt) p.1 in
    let z = eqb-false q 0 p.0 in
    (omega arith, ltb-false n q r.0)

-- no check of the list fails
abbrev pub Clear : List Check → Type 0
Clear [] = Unit {0}
Clear (c ∷ cs) = (c.fails ≡ false) × Clear cs

pub clear : (cs : List Check) → Ok tt ≡ first_refusal cs → Clear cs
clear [] e = tt
clear (c ∷ cs) e = let p = pass c.fails c.refusal (first_refusal cs) e in (p.0, clear cs p.1)

twice : (t : Bool) → (t || t) ≡ t
twice true = refl
twice false = refl

module _ (k : BookKind) (b : Holdings) where
  pub credit-fits : (A I q : ℕ) → Ok tt ≡ ruling k b (crediting A I q)
      → (A < 64) × (I < k.items) × (0 < q) × (total b I + q ≤ limit k b I)
  credit-fits A I q e =
      let c = clear (checks k b (crediting A I q)) e in
      let z = eqb-false q 0 c.1.1.0 in
      (leb-false 64 A c.0, leb-false k.items I c.1.0, omega arith, ltb-false (limit k b I) (total b I + q) c.1.1.1.0)

  pub block-fits : (A I q : ℕ) → Ok tt ≡ ruling k b (blocking A I q)
      → (A < 64) × (I < k.items) × (0 < q) × (q ≤ b.free A I)
  block-fits A I q e =
      let c = clear (checks k b (blocking A I q)) e in
      let z = eqb-false q 0 c.1.1.0 in
      (leb-false 64 A c.0, leb-false k.items I c.1.0, omega arith, ltb-false (b.free A I) q c.1.1.1.0)

  pub release-fits : (A I q : ℕ) → Ok tt ≡ ruling k b (releasing A I q)
      → (A < 64) × (I < k.items) × (0 < q) × (q ≤ b.blocked A I)
  release-fits A I q e =
      let c = clear (checks k b (releasing A I q)) e in
      let z = eqb-false q 0 c.1.1.0 in
      (leb-false 64 A c.0, leb-false k.items I c.1.0, omega arith, ltb-false (b.blocked A I) q c.1.1.1.0)

  pub move-fits : (A B I q : ℕ) → Ok tt ≡ ruling k b (moving A B I q)
      → (A < 64) × (B < 64) × (I < k.items) × (0 < q) × (q ≤ b.blocked A I)
  move-fits A B I q e =
      let c = clear (checks k b (moving A B I q)) e in
      let o = or_parts (leb 64 A) (leb 64 B) c.0 in
      let z = eqb-false q 0 c.1.1.0 in (
        leb-false 64 A o.0,
        leb-false 64 B o.1,
        leb-false k.items I c.1.0,
        omega arith,
        ltb-false
            (b.blocked A I) q c.1.1.1.0,
      )

  pub block-accepted : (A I q : ℕ) → A < 64 → I < k.items → 0 < q → q ≤ b.free A I
      → Ok tt ≡ ruling k b (blocking A I q)
  block-accepted A I q la li lq l = let z = ne_eqb q 0 (omega arith) in rw
      (lt-leb 64 A la, lt-leb k.items I li, z, le-ltb (b.free A I) q l)

  pub move-accepted : (A B I q : ℕ) → A < 64 → B < 64 → I < k.items → 0 < q → q ≤ b.blocked A I
      → Ok tt ≡ ruling k b (moving A B I q)
  move-accepted A B I q la lb li lq l = let z = ne_eqb q 0 (omega arith) in rw
      (lt-leb 64 A la, lt-leb 64 B lb, lt-leb k.items I li, z, le-ltb (b.blocked A I) q l)

  -- no accepted deed takes an item's total past its limit
  pub stays-within : (w : Deed) → Ok tt ≡ ruling k b w → ((i : ℕ) → total b i ≤ limit k b i) → (i : ℕ)
      → total (apply b w) i ≤ limit k (apply b w) i
  stays-within no_change e h i = h i
  stays-within (crediting A I q) e h i = let f = credit-fits A I q e in credit-below b A I q i k.ceiling f.0 f.3 (h i)
  stays-within (blocking A I q) e h i = omega (arith, total-block b A I q i (block-fits A I q e).3, h i)
  stays-within (releasing A I q) e h i = omega (arith, total-release b A I q i (release-fits A I q e).3, h i)
  stays-within (moving A B I q) e h i = let f = move-fits A B I q e in omega
      (arith, total-move b A I q i B f.0 f.1 f.4, h i)

  -- a release is a transfer of an account to itself
  pub ruling-self : (A I q : ℕ) → ruling k b (moving A A I q) ≡ ruling k b (releasing A I q)
  ruling-self A I q = ap (λ t. first_refusal
      (t refuses 21 ∷ leb k.items I refuses 22 ∷ eqb q 0 refuses 23 ∷ ltb (b.blocked A I) q refuses 26 ∷ []))
      (twice (leb 64 A))

  pub outcome-self : (A I q : ℕ) → outcome k b (moving A A I q) ≡ outcome k b (releasing A I q)
  outcome-self A I q = ap (λ r. if_ok r (apply b (releasing A I q)) b) (ruling-self A I q)
