-- Zeros in place of each mark, one after another, and a sync.
use Rattle.std.proofs.Common.{◌≡◌, ℕ, ◌+◌, ◌*◌, ◌<◌, ◌≤◌, Bool, true, false, Some, Ok, Err, sym, refl, ◌∙◌, subst, inl, inr, arith}
use Rattle.std.proofs.lemmas.Bool.{cases_eq}
use Rattle.refusals.specs.declared.Fault.{Fault}
use Rattle.device.specs.Medium.{Medium}
use Rattle.device.specs.Calls.{Answer, Write, Sync}
use Rattle.device.proofs.Answered.{write-passed, write-refused, sync-passed, sync-refused}
use Rattle.journal.specs.Blocks.{zeros}
use Rattle.journal.specs.Journal.{mark_at}
use Rattle.journal.specs.Format.{IsNoMarkBlock, BlanksMarks}

-- the marks before k are zeros, and each write was accepted
pub record Blanking (k : ℕ) (m m' : Medium) : Type 0 where
  pub size : m'.size ≡ m.size
  pub calls_left : m'.calls_left + k ≡ m.calls_left
  pub holds : (b : ℕ) → IsNoMarkBlock k b → m'.holds b ≡ m.holds b
  pub loose : (b : ℕ) → IsNoMarkBlock k b → m'.loose b ≡ m.loose b
  pub written : (j : ℕ) → j < k → m'.holds (mark_at j) ≡ Some zeros

fewer : {k n b : ℕ} → k ≤ n → IsNoMarkBlock n b → IsNoMarkBlock k b
fewer l u j h = u j (omega arith)

-- a mark from k on is none of those before it
later : (k j : ℕ) → k ≤ j → IsNoMarkBlock k (mark_at j)
later k j l i h e = omega arith

pub none-blank : (m : Medium) → Blanking 0 m m
none-blank m =
    record {
      size = refl;
      calls_left = omega arith;
      holds = λ b u. refl;
      loose = λ b u. refl;
      written = λ j h. absurd (omega arith);
    }

module _ {k : ℕ} {m m₁ m₂ : Medium} (s : Blanking k m m₁) where
  pub one-more : Write m₁ m₂ (mark_at k) zeros (Ok tt) → Blanking (k + 1) m m₂
  one-more w =
      let p = write-passed w in
      let calls = p.calls in
      record {
        size = w.elsewhere.size ∙ s.size;
        calls_left = omega (arith, w.calls_left, s.calls_left, calls);
        holds = λ b u. w.elsewhere.holds b (u k (omega arith)) ∙ s.holds b (fewer (omega arith) u);
        loose = λ b u. w.elsewhere.loose b (u k (omega arith)) ∙ s.loose b (fewer (omega arith) u);
        written = λ j h.
            elim (cases_eq j k) [
              | inl e ↦ subst (λ (i : ℕ). m₂.holds (mark_at i) ≡ Some zeros) (sym e) w.here
              | inr n ↦ w.elsewhere.holds (mark_at j) (omega arith) ∙ s.written j (omega arith)
            ];
      }

  -- no call was left for the mark of entry k
  pub cut-short : {pairs : ℕ} {e : Fault} → k < pairs → 1 + 2 * pairs ≤ m.size
      → Write m₁ m₂ (mark_at k) zeros (Err e) → BlanksMarks pairs m m₂
  cut-short {pairs} {e} l fits w =
      let r = write-refused w (omega (arith, s.size)) refl in
      let none = r.1 in
      record {
        size = w.elsewhere.size ∙ s.size;
        calls_left = omega (arith, w.calls_left, none, s.calls_left);
        holds = λ b u. w.elsewhere.holds b (u k l) ∙ s.holds b (fewer (omega arith) u);
        loose = λ b u h. w.elsewhere.loose b (u k l) ∙ s.loose b (fewer (omega arith) u) ∙ h;
        no_mark =
            λ j h i. w.elsewhere.holds (mark_at j) (omega (arith, s.calls_left, none))
            ∙ s.written j (omega (arith, s.calls_left, none));
        old_mark =
            λ j h i. w.elsewhere.holds (mark_at j) (omega (arith, s.calls_left, none))
            ∙ s.holds (mark_at j) (later k j (omega (arith, s.calls_left, none)));
        old_mark-firm = λ j h i f.
            w.elsewhere.loose (mark_at j) (omega (arith, s.calls_left, none))
            ∙ s.loose (mark_at j) (later k j (omega (arith, s.calls_left, none))) ∙ f;
        firm = λ h. absurd (omega (arith, s.calls_left, none));
      }

not-loose : (a b : Bool) → (a ≡ true → b ≡ true) → b ≡ false → a ≡ false
not-loose false b h f = refl
not-loose true b h f = sym (h refl) ∙ f

module _ {pairs : ℕ} {m m₁ m₂ : Medium} (s : Blanking pairs m m₁) where
  -- all marks are zeros, and no call was left for the sync
  unsynced : {e : Fault} → Sync m₁ m₂ (Err e) → BlanksMarks pairs m m₂
  unsynced w =
      let none = (sync-refused w).1 in
      record {
        size = w.size ∙ s.size;
        calls_left = omega (arith, w.calls_left, none, s.calls_left);
        holds = λ b u. w.holds b ∙ s.holds b u;
        loose = λ b u h. not-loose (m₂.loose b) (m₁.loose b) (w.loose b) (s.loose b u ∙ h);
        no_mark = λ j h i. w.holds (mark_at j) ∙ s.written j h;
        old_mark = λ j h i. absurd (omega (arith, s.calls_left));
        old_mark-firm = λ j h i f. absurd (omega (arith, s.calls_left));
        firm = λ h. absurd (omega (arith, s.calls_left, none));
      }

  synced : Sync m₁ m₂ (Ok tt) → BlanksMarks pairs m m₂
  synced w =
      let calls = sync-passed w in
      record {
        size = w.size ∙ s.size;
        calls_left = omega (arith, w.calls_left, calls, s.calls_left);
        holds = λ b u. w.holds b ∙ s.holds b u;
        loose = λ b u h. w.loose b;
        no_mark = λ j h i. w.holds (mark_at j) ∙ s.written j h;
        old_mark = λ j h i. absurd (omega (arith, s.calls_left));
        old_mark-firm = λ j h i f. absurd (omega (arith, s.calls_left));
        firm = λ h b. w.loose b;
      }

  pub all-blank : (r : Answer) → Sync m₁ m₂ r → BlanksMarks pairs m m₂
  all-blank (Ok u) w = synced w
  all-blank (Err e) w = unsynced w
