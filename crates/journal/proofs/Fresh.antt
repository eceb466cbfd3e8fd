-- What a format leaves, step by step, and the journal with no entries that one makes.
use Rattle.std.proofs.Common.{◌≡◌, ℕ, ◌+◌, ◌-◌, ◌<◌, ◌≤◌, false, List, [], Some, None, sym, refl, ap, ◌∙◌, ⊎_elim, arith}
use Rattle.std.proofs.lemmas.Bool.{cases_lt}
use Rattle.device.specs.Medium.{Medium}
use Rattle.journal.specs.declared.header.Header.{Header}
use Rattle.journal.specs.Blocks.{zeros, header_bytes, journal_blocks}
use Rattle.journal.specs.Journal.{mark_at, MarkIsFirmlyBad, Journal}
use Rattle.journal.specs.Format.{IsNoMarkBlock, Formats, WritesAndSyncs, BlanksMarks}
use Rattle.journal.proofs.Trips.{zeros-no-mark}

-- no mark is in the header's block
head-unmarked : (pairs : ℕ) → IsNoMarkBlock pairs 0
head-unmarked pairs k h e = omega arith

-- where no call is left, a step that was not begun leaves what it says
keep-none : (b : ℕ) (bytes : List ℕ) (m : Medium) → m.calls_left ≡ 0 → WritesAndSyncs b bytes m m
keep-none b bytes m none =
    record {
      size = refl;
      calls_left = omega arith;
      holds = λ c n. refl;
      loose = λ c n f. f;
      new_bytes = λ h. absurd (omega arith);
      firm = λ h. absurd (omega arith);
    }

blank-none : (pairs : ℕ) (m : Medium) → m.calls_left ≡ 0 → BlanksMarks pairs m m
blank-none pairs m none =
    record {
      size = refl;
      calls_left = omega arith;
      holds = λ b u. refl;
      loose = λ b u f. f;
      no_mark = λ k l h. absurd (omega arith);
      old_mark = λ k l h. refl;
      old_mark-firm = λ k l h f. f;
      firm = λ h. absurd (omega arith);
    }

-- the device as it was, with no header, with no marks, and at the end: a step that was not begun
-- left it as it was
module _ (header : List ℕ) (pairs : ℕ) {m₀ m₁ m₂ m₃ : Medium} (one : WritesAndSyncs 0 zeros m₀ m₁)
    (two : BlanksMarks pairs m₁ m₂) (three : WritesAndSyncs 0 header m₂ m₃)
    (early : m₀.calls_left < 2 → m₂ ≡ m₁) (late : m₀.calls_left < pairs + 3 → m₃ ≡ m₂) where
  spent : m₂.calls_left ≡ m₀.calls_left - (pairs + 3)
  spent = omega (arith, one.calls_left, two.calls_left)

  old_mark : (k : ℕ) → k < pairs → m₀.calls_left < k + 2 → m₂.holds (mark_at k) ≡ m₁.holds (mark_at k)
  old_mark k l h =
      ⊎_elim (λ (e : m₀.calls_left < 2). ap (λ (m : Medium). m.holds (mark_at k)) (early e))
      (λ (g : 2 ≤ m₀.calls_left). two.old_mark k l (omega (arith, one.calls_left))) (cases_lt m₀.calls_left 2)

  old_mark-firm : (k : ℕ) → k < pairs → m₀.calls_left < k + 2 → m₁.loose (mark_at k) ≡ false
      → m₂.loose (mark_at k) ≡ false
  old_mark-firm k l h f =
      ⊎_elim (λ (e : m₀.calls_left < 2). ap (λ (m : Medium). m.loose (mark_at k)) (early e) ∙ f)
      (λ (g : 2 ≤ m₀.calls_left). two.old_mark-firm k l (omega (arith, one.calls_left)) f)
      (cases_lt m₀.calls_left 2)

  stepwise : Formats header pairs m₀ m₃
  stepwise = record {
    size = three.size ∙ two.size ∙ one.size;
    calls_left = omega (arith, three.calls_left, spent);
    holds = λ b a. three.holds b a.0 ∙ two.holds b a.1 ∙ one.holds b a.0;
    loose = λ b a f. three.loose b a.0 (two.loose b a.1 (one.loose b a.0 f));
    no_header = λ l h. ap (λ (m : Medium). m.holds 0) (late h) ∙ two.holds 0 (head-unmarked pairs) ∙ one.new_bytes l;
    no_header-firm =
        λ l h. ap (λ (m : Medium). m.loose 0) (late h) ∙ two.loose 0 (head-unmarked pairs) (one.firm l 0);
    old_mark = λ k l h. three.holds (mark_at k) (omega arith) ∙ old_mark k l h ∙ one.holds (mark_at k) (omega arith);
    old_mark-firm =
        λ k l h f. three.loose (mark_at k) (omega arith)
        (old_mark-firm k l h (one.loose (mark_at k) (omega arith) f));
    no_mark = λ k l h. three.holds (mark_at k) (omega arith) ∙ two.no_mark k l (omega (arith, one.calls_left));
    no_mark-firm =
        λ k l h. three.loose (mark_at k) (omega arith) (two.firm (omega (arith, one.calls_left)) (mark_at k));
    new_header = λ h. three.new_bytes (omega (arith, spent));
    firm = λ h b. three.firm (omega (arith, spent)) b;
  }

-- by the step that the calls lasted to
module _ (header : List ℕ) (pairs : ℕ) {m₀ m₁ : Medium} (one : WritesAndSyncs 0 zeros m₀ m₁) where
  pub cut-first : m₀.calls_left < 2 → Formats header pairs m₀ m₁
  cut-first l =
      let none : m₁.calls_left ≡ 0 = omega (arith, one.calls_left) in
      stepwise header pairs one (blank-none pairs m₁ none) (keep-none 0 header m₁ none) (λ h. refl) (λ h. refl)

  module _ (begun : 2 ≤ m₀.calls_left) {m₂ : Medium} (two : BlanksMarks pairs m₁ m₂) where
    pub cut-second : m₀.calls_left < pairs + 3 → Formats header pairs m₀ m₂
    cut-second l =
        let none : m₂.calls_left ≡ 0 = omega (arith, one.calls_left, two.calls_left) in
        stepwise header pairs one two (keep-none 0 header m₂ none) (λ h. absurd (omega arith)) (λ h. refl)

    pub all-steps : pairs + 3 ≤ m₀.calls_left → {m₃ : Medium} → WritesAndSyncs 0 header m₂ m₃
        → Formats header pairs m₀ m₃
    all-steps l three = stepwise header pairs one two three (λ h. absurd (omega arith)) (λ h. absurd (omega arith))

some-is : {x y : List ℕ} → Some x ≡ Some y → x ≡ y
some-is e = cc

pub fresh-journal : (h : Header) (m m' : Medium) → h.pairs < 32768 → h.pairs + 4 < m.calls_left
    → Formats (header_bytes h) h.pairs m m' → Journal (journal_blocks h) m' [] None
fresh-journal h m m' few calls f =
    let blank : (k : ℕ) → k < h.pairs → MarkIsFirmlyBad (journal_blocks h) m' k =
    λ k l. (
      λ good. zeros-no-mark k (omega arith) (some-is (sym (f.no_mark k l (omega arith)) ∙ good)),
      f.firm calls
          (mark_at k),
    ) in
    record {
      head = (f.new_header (omega arith), f.firm calls 0);
      room = omega arith;
      records = λ k l. absurd (omega arith);
      marks = λ k l. absurd (omega arith);
      beyond = λ k l p. blank k p;
      tail = λ p. blank 0 p;
    }
