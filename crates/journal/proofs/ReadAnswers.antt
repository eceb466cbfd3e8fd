-- What reading a mark, a record and the header answers.
use Rattle.std.proofs.Common.{◌≡◌, ℕ, ◌+◌, ◌*◌, ◌^◌, ◌<◌, ◌&&◌, Bool, true, false, cond, eqb, ltb, leb, List, length, get_or, Some, None, Ok, Err, Option, Result, sym, refl, ap, ◌∙◌, inl, inr, arith}
use Rattle.std.proofs.lemmas.Bool.{cond-true, cond-false, eqb-true, eqb-false, cases_Bool, false_from_ne_true}
use Rattle.refusals.specs.declared.Refusal.{Refusal}
use Rattle.refusals.specs.declared.Fault.{Fault}
use Rattle.instruction.specs.declared.Instruction.{Instruction}
use Rattle.device.specs.Medium.{Medium, IsBounded}
use Rattle.journal.specs.declared.header.Header.{Header}
use Rattle.journal.specs.Journal.{record_at, mark_at}
use Rattle.journal.specs.Blocks.{header_in, mark_bytes, record_in}
use Rattle.journal.specs.Entries.{after_reads, is_good, read_mark_answer, as_entry_fault, record_block_answer, read_record_answer}
use Rattle.journal.specs.Headers.{fitting_pairs, header_pairs, header_block_answer, read_header_answer, after_read_header}
use Rattle.journal.proofs.Trips.{mark-is, mark-back}

-- a check that answered well found a call left, and one that did not found none
some-left : {X : Type 0} (n : ℕ) (f : Fault) (r : Result X Fault) (x : X) → Ok x ≡ cond (eqb n 0) (Err f) r → 0 < n
some-left n f r x e =
    elim (cases_Bool (eqb n 0)) [
      | inl t ↦ let q : Ok x ≡ Err f = e ∙ cond-true (eqb n 0) (Err f) r t in absurd cc
      | inr o ↦ let q = eqb-false n 0 o in omega arith
    ]

pub mark-spends : (m : Medium) (k : ℕ) (b : Bool) → Ok b ≡ read_mark_answer m k → 0 < m.calls_left
mark-spends m k b e = some-left m.calls_left _ (Ok (is_good k (m.holds (mark_at k)))) b e

pub mark-refused : (m : Medium) (k : ℕ) (f : Fault) → Err f ≡ read_mark_answer m k
    → (m.calls_left ≡ 0) × (f.entry ≡ Some k)
mark-refused m k f e =
    elim (cases_Bool (eqb m.calls_left 0)) [
      | inl t ↦ let q = e ∙ cond-true (eqb m.calls_left 0) _ _ t in (eqb-true m.calls_left 0 t, cc)
      | inr o ↦ let q = e ∙ cond-false (eqb m.calls_left 0) _ _ o in absurd cc
    ]

pub record-spends : (m : Medium) (k : ℕ) (x : Instruction) → Ok x ≡ read_record_answer m k → 0 < m.calls_left
record-spends m k x e = some-left m.calls_left _ (record_block_answer k (m.holds (record_at k))) x e

-- a fault of entry k names it

told-names : (k : ℕ) (r : Result Instruction Refusal) (f : Fault) → as_entry_fault k r ≡ Err f → f.entry ≡ Some k
told-names k (Ok x) f e = absurd cc
told-names k (Err r) f e = cc

said-names : (k : ℕ) (o : Option (List ℕ)) (f : Fault) → record_block_answer k o ≡ Err f → f.entry ≡ Some k
said-names k None f e = cc
said-names k (Some bs) f e = told-names k (record_in k bs) f e

pub record-names : (m : Medium) (k : ℕ) (f : Fault) → read_record_answer m k ≡ Err f → f.entry ≡ Some k
record-names m k f e =
    elim (cases_Bool (eqb m.calls_left 0)) [
      | inl t ↦ let q = sym e ∙ cond-true (eqb m.calls_left 0) _ _ t in cc
      | inr o ↦ said-names k (m.holds (record_at k)) f (sym (cond-false (eqb m.calls_left 0) _ _ o) ∙ e)
    ]

-- a good mark is tested as good
pub mark-good : (m : Medium) (k : ℕ) → k < 2 ^ 32 → m.holds (mark_at k) ≡ Some (mark_bytes k)
    → is_good k (m.holds (mark_at k)) ≡ true
mark-good m k l e = ap (is_good k) e ∙ mark-is k l

good-tested : (k : ℕ) (o : Option (List ℕ))
    → ((bs : List ℕ) → o ≡ Some bs → (length bs ≡ 256) × ((i : ℕ) → get_or bs i 0 < 256)) → is_good k o ≡ true
    → o ≡ Some (mark_bytes k)
good-tested k None whole e = absurd cc
good-tested k (Some bs) whole e = let w = whole bs refl in ap Some (mark-back bs w.0 w.1 k e)

-- one that is tested as good is so,
pub mark-tested : (m : Medium) (k : ℕ) → IsBounded m → is_good k (m.holds (mark_at k)) ≡ true
    → m.holds (mark_at k) ≡ Some (mark_bytes k)
mark-tested m k b e =
    good-tested k (m.holds (mark_at k)) (λ bs h. (b.whole (mark_at k) bs h, b.bytes (mark_at k) bs h)) e

-- and one that is not good is not
pub mark-bad : (m : Medium) (k : ℕ) → IsBounded m → (m.holds (mark_at k) ≡ Some (mark_bytes k) → ⊥)
    → is_good k (m.holds (mark_at k)) ≡ false
mark-bad m k b bad =
    false_from_ne_true (is_good k (m.holds (mark_at k))) (λ e. bad (mark-tested m k b e))

-- a fault of the header names no entry

fitting-unnamed : (register money size : ℕ) (head : Header) (f : Fault)
    → fitting_pairs register money size head ≡ Err f → f.entry ≡ None
fitting-unnamed register money size head f e =
    elim (cases_Bool (eqb head.register register && eqb head.cash money)) [
      | inl same ↦ (let q = sym (cond-true _ _ _ same) ∙ e in elim (cases_Bool (ltb size (1 + 2 * head.pairs))) [
        | inl few ↦ let w = sym (cond-true _ _ _ few) ∙ q in cc
        | inr fit ↦ let w = sym (cond-false _ _ _ fit) ∙ q in absurd cc
      ])
      | inr other ↦ let q = sym (cond-false _ _ _ other) ∙ e in cc
    ]

headed-unnamed : (register money size : ℕ) (r : Result Header Refusal) (f : Fault)
    → header_pairs register money size r ≡ Err f → f.entry ≡ None
headed-unnamed register money size (Ok head) f e = fitting-unnamed register money size head f e
headed-unnamed register money size (Err r) f e = cc

held-unnamed : (register money size : ℕ) (o : Option (List ℕ)) (f : Fault)
    → header_block_answer register money size o ≡ Err f → f.entry ≡ None
held-unnamed register money size None f e = cc
held-unnamed register money size (Some bs) f e = headed-unnamed register money size (header_in bs) f e

pub header-unnamed : (register money : ℕ) (m : Medium) (f : Fault) → Err f ≡ read_header_answer register money m
    → f.entry ≡ None
header-unnamed register money m f e =
    elim (cases_Bool (leb m.size 0)) [
      | inl none ↦ let q = sym (cond-true _ _ _ none) ∙ sym e in cc
      | inr some ↦ (let q = sym (cond-false _ _ _ some) ∙ sym e in elim (cases_Bool (eqb m.calls_left 0)) [
        | inl out ↦ let w = sym (cond-true _ _ _ out) ∙ q in cc
        | inr left ↦ held-unnamed register money m.size (m.holds 0) f (sym (cond-false _ _ _ left) ∙ q)
      ])
    ]

-- one that passed its checks took a call
pub header-spends : (register money pairs : ℕ) (m : Medium) → Ok pairs ≡ read_header_answer register money m
    → (0 < m.calls_left) × (after_read_header m ≡ after_reads 1 m)
header-spends register money pairs m e =
    elim (cases_Bool (leb m.size 0)) [
      | inl none ↦ let q = e ∙ cond-true _ _ _ none in absurd cc
      | inr some ↦
          let q = e ∙ cond-false _ _ _ some in (
            some-left m.calls_left _ (header_block_answer register money m.size (m.holds 0)) pairs q,
            cond-false
                (leb m.size 0) m (after_reads 1 m) some,
          )
    ]
