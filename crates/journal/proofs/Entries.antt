-- What the four calls of an entry leave, where the first two were answered 0.
use Rattle.std.proofs.Common.{◌≡◌, ℕ, ◌+◌, ◌-◌, ◌<◌, false, List, length, Ok, Err, ◌∙◌, arith}
use Rattle.std.proofs.lemmas.Bool.{false_from_ne_true, both_ways}
use Rattle.refusals.specs.declared.Fault.{Fault}
use Rattle.device.specs.Medium.{Medium}
use Rattle.device.specs.Calls.{Answer, Write, Sync}
use Rattle.device.proofs.Answered.{write-passed, write-refused, sync-passed, sync-refused}
use Rattle.journal.specs.Journal.{record_at, mark_at, WritesEntry}

module _ (k : ℕ) (entry mark : List ℕ) {m₀ m₁ m₂ : Medium} (w : Write m₀ m₁ (record_at k) entry (Ok tt))
    (s : Sync m₁ m₂ (Ok tt)) where
  begun : m₀.calls_left ≡ m₂.calls_left + 2
  begun = let p = (write-passed w).calls in let q = sync-passed s in omega (arith, w.calls_left, s.calls_left, p, q)

  -- there was no call for the mark
  pub mark-refused : {m₃ : Medium} {f : Fault} → Write m₂ m₃ (mark_at k) mark (Err f) → mark_at k < m₂.size
      → length mark ≡ 256 → WritesEntry entry mark k m₀ m₃
  mark-refused {m₃} {f} x l full =
      let none = (write-refused x l full).1 in
      record {
        size = x.elsewhere.size ∙ s.size ∙ w.elsewhere.size;
        calls_left = omega (arith, x.calls_left, begun, none);
        holds = λ b n p. x.elsewhere.holds b p ∙ s.holds b ∙ w.elsewhere.holds b n;
        loose = λ b n p f. x.elsewhere.loose b p ∙ s.loose b;
        new_record = λ l. x.elsewhere.holds (record_at k) (λ e. omega arith) ∙ s.holds (record_at k) ∙ w.here;
        new_record-firm = λ l. x.elsewhere.loose (record_at k) (λ e. omega arith) ∙ s.loose (record_at k);
        old_mark = λ l. absurd (omega (arith, begun));
        old_mark-firm = λ l. absurd (omega (arith, begun));
        new_mark = λ l. absurd (omega (arith, begun, none));
        firm = λ l. absurd (omega (arith, begun, none));
      }

  -- there was one
  module _ {m₃ : Medium} (x : Write m₂ m₃ (mark_at k) mark (Ok tt)) where
    written : m₂.calls_left ≡ m₃.calls_left + 1
    written = let p = (write-passed x).calls in omega (arith, x.calls_left, p)

    -- what was not loose is not loose after the last sync
    still : {m₄ : Medium} (r : Answer) → Sync m₃ m₄ r → (b : ℕ) → m₃.loose b ≡ false → m₄.loose b ≡ false
    still {m₄} (Ok u) t b f = t.loose b
    still {m₄} (Err e) t b f = false_from_ne_true (m₄.loose b) (λ g. both_ways (m₃.loose b) f (t.loose b g))

    last : {m₄ : Medium} (r : Answer) → Sync m₃ m₄ r → m₄.calls_left ≡ m₃.calls_left - 1
    last {m₄} (Ok u) t = t.calls_left
    last {m₄} (Err e) t = let n = (sync-refused t).1 in omega (arith, t.calls_left, n)

    all-firm : {m₄ : Medium} (r : Answer) → Sync m₃ m₄ r → 3 < m₀.calls_left → (b : ℕ) → m₄.loose b ≡ false
    all-firm {m₄} (Ok u) t l b = t.loose b
    all-firm {m₄} (Err e) t l b = let n = (sync-refused t).1 in absurd (omega (arith, begun, written, n))

    pub all-called : {m₄ : Medium} {r : Answer} → Sync m₃ m₄ r → WritesEntry entry mark k m₀ m₄
    all-called {m₄} {r} t = record {
      size = t.size ∙ x.elsewhere.size ∙ s.size ∙ w.elsewhere.size;
      calls_left = omega (arith, last r t, begun, written);
      holds = λ b n p. t.holds b ∙ x.elsewhere.holds b p ∙ s.holds b ∙ w.elsewhere.holds b n;
      loose = λ b n p f. still r t b (x.elsewhere.loose b p ∙ s.loose b);
      new_record =
          λ l. t.holds (record_at k) ∙ x.elsewhere.holds (record_at k) (λ e. omega arith) ∙ s.holds (record_at k)
          ∙ w.here;
      new_record-firm =
          λ l. still r t (record_at k) (x.elsewhere.loose (record_at k) (λ e. omega arith) ∙ s.loose (record_at k));
      old_mark = λ l. absurd (omega (arith, begun));
      old_mark-firm = λ l. absurd (omega (arith, begun));
      new_mark = λ l. t.holds (mark_at k) ∙ x.here;
      firm = all-firm r t;
    }
