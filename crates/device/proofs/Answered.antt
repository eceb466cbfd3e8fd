-- What a caller learns from an answer.
use Rattle.std.proofs.Common.{◌≡◌, ℕ, ◌<◌, eqb, List, length, Ok, Err, sym, refl, ap, ◌∙◌, inl, inr, arith}
use Rattle.std.proofs.lemmas.Bool.{not_from_true, cond-true, cond-false, lt-leb, eq-eqb, eqb-true, eqb-false, cases_Bool}
use Rattle.refusals.specs.declared.Refusal.TheVariants.{NoCalls}
use Rattle.refusals.specs.declared.Fault.{Fault}
use Rattle.refusals.specs.Faults.{plain, at_block}
use Rattle.device.specs.Medium.{Medium}
use Rattle.device.specs.Calls.{Answer, admit_answer, and_then, Write, Sync}

-- a call on block b with n bytes that passed the checks
pub record Passed (size left b n : ℕ) : Type 0 where
  pub in-range : b < size
  pub whole : n ≡ 256
  pub calls : 0 < left

pub passed : (size left b n : ℕ) → admit_answer size left b n ≡ Ok tt → Passed size left b n
passed size left b n e = record { in-range = grind arith; whole = grind arith; calls = grind arith }

-- the same checks, for an equal number of blocks
pub admit_answer-as : (size size' left b n : ℕ) → size ≡ size' → Ok tt ≡ admit_answer size left b n
    → admit_answer size' left b n ≡ Ok tt
admit_answer-as size size' left b n e ok = ap (λ (k : ℕ). admit_answer k left b n) (sym e) ∙ sym ok

-- a call that did not pass, though its block and its length are right
pub refused : (size left b n : ℕ) (e : Fault) → Err e ≡ admit_answer size left b n → b < size → n ≡ 256
    → (e ≡ at_block NoCalls b) × (left ≡ 0)
refused size left b n e h l w =
    let p = cond-false _ _ _ (lt-leb size b l) ∙ cond-false _ _ _ (not_from_true _ (eq-eqb n 256 w)) in
    elim (cases_Bool (eqb left 0)) [
      | inl t ↦
          let q : Err e ≡ Err (at_block NoCalls b) = h ∙ p ∙ cond-true _ _ _ t in
          (cc, eqb-true left 0 t)
      | inr f ↦
          let q : Err e ≡ Ok tt = h ∙ p ∙ cond-false _ _ _ f in
          absurd cc
    ]

-- The same, from the promise of a write or of a sync.
pub write-passed : {m m' : Medium} {b : ℕ} {bytes : List ℕ} → Write m m' b bytes (Ok tt)
    → Passed m.size m.calls_left b (length bytes)
write-passed {m} {m'} {b} {bytes} w = passed m.size m.calls_left b (length bytes) (sym w.answer)

pub write-refused : {m m' : Medium} {b : ℕ} {bytes : List ℕ} {e : Fault} → Write m m' b bytes (Err e) → b < m.size
    → length bytes ≡ 256 → (e ≡ at_block NoCalls b) × (m.calls_left ≡ 0)
write-refused {m} {m'} {b} {bytes} {e} w l full = refused m.size m.calls_left b (length bytes) e w.answer l full

pub sync-passed : {m m' : Medium} → Sync m m' (Ok tt) → 0 < m.calls_left
sync-passed {m} {m'} s =
    elim (cases_Bool (eqb m.calls_left 0)) [
      | inl t ↦
          let q : Ok tt ≡ Err (plain NoCalls) = s.answer ∙ cond-true (eqb m.calls_left 0) _ _ t in
          absurd cc
      | inr f ↦ let n = eqb-false m.calls_left 0 f in omega arith
    ]

pub sync-refused : {m m' : Medium} {e : Fault} → Sync m m' (Err e) → (e ≡ plain NoCalls) × (m.calls_left ≡ 0)
sync-refused {m} {m'} {e} s =
    elim (cases_Bool (eqb m.calls_left 0)) [
      | inl t ↦
          let q : Err e ≡ Err (plain NoCalls) = s.answer ∙ cond-true (eqb m.calls_left 0) _ _ t in
          (cc, eqb-true m.calls_left 0 t)
      | inr f ↦
          let q : Err e ≡ Ok tt = s.answer ∙ cond-false (eqb m.calls_left 0) _ _ f in
          absurd cc
    ]

pub then-passed : (x y : Answer) → Ok tt ≡ and_then x y → (x ≡ Ok tt) × (y ≡ Ok tt)
then-passed (Ok x) y e = (refl, sym e)
then-passed (Err f) y e =
    absurd cc
