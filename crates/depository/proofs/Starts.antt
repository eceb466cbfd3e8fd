-- A depository after its format: the tally is empty and is kept; and so all that `serve` promises.
use Rattle.std.proofs.Common.{◌≡◌, ℕ, ◌+◌, ◌*◌, ◌<◌, ◌≤◌, Bool, true, false, cond, List, [], ◌∷◌, ◌++◌, take, None, Ok, Err, sym, refl, subst, arith}
use Rattle.refusals.specs.declared.Fault.{Fault}
use Rattle.refusals.specs.declared.Refusal.TheVariants.{NoRoom}
use Rattle.refusals.specs.Faults.{plain}
use Rattle.book.specs.Holdings.{Holdings}
use Rattle.rulebook.specs.Terms.{Side, securities, cash}
use Rattle.rulebook.specs.Rules.{Rulebook, empty, start}
use Rattle.rulebook.proofs.Meanings.{lasts-are-unique}
use Rattle.device.specs.Medium.{Medium, IsBounded}
use Rattle.device.specs.Calls.{Answer}
use Rattle.device.specs.Traces.{DeviceCall, writing, syncing, IsTrace}
use Rattle.journal.specs.Blocks.{zeros, header_bytes}
use Rattle.journal.proofs.Fresh.{fresh-journal}
use Rattle.journal.specs.Format.{no_room, format_answer, header_for_kinds as format_header, Formats, mark_writes, format_calls}
use Rattle.engine.specs.Opening.{header_for_books}
use Rattle.depository.specs.declared.calls.Reply.{Reply}
use Rattle.depository.specs.Orders.{Order}
use Rattle.depository.specs.Moments.{Moment, shut, moment_in}
use Rattle.depository.specs.CallTally.{empty_tally}
use Rattle.depository.specs.Paths.{Path}
use Rattle.depository.specs.Survival.{FormatLeaves, Survives}
use Rattle.depository.proofs.KeepsTally.{IsPairCount, KeepsTally}
use Rattle.depository.proofs.Survival.{law, also}

format-passes : (b : Bool) (e : Fault) (rest : Answer) → Ok tt ≡ cond b (Err e) rest → b ≡ false
format-passes true e rest ok = absurd cc
format-passes false e rest ok = refl

-- a format that is answered 0 had room
pub has-room : (pairs : ℕ) (m : Medium) → format_answer pairs m ≡ Ok tt → no_room pairs m.size ≡ false
has-room pairs m e = format-passes (no_room pairs m.size) (plain NoRoom) _ (sym e)

-- a number of pairs that a journal may have and that a device has room for
record Room (pairs size : ℕ) : Type 0 where
  paired : IsPairCount pairs
  within : 1 + 2 * pairs ≤ size

room : (pairs size : ℕ) → no_room pairs size ≡ false → Room pairs size
room pairs size e = record { paired = record { some = grind arith; few = grind arith }; within = grind arith }

-- the header that a format writes for the kinds that the books answer
same-header : (h : Rulebook) (a b pairs : ℕ) → a ≡ (h.book_kind securities).code → b ≡ (h.book_kind cash).code
    → format_header a b pairs ≡ header_for_books h pairs
same-header h a b pairs ea eb = λ i. record { register = ea i; cash = eb i; pairs = pairs }

-- a device d, and the device e that a format left, where a and b are the kinds that the books
-- answered
module _ {D : Type 0} (makes : D → DeviceCall → D → Type 0) (means : D → Medium) (h : Rulebook) (pairs : ℕ)
    (d e : D) (a b : ℕ) (ea : a ≡ (h.book_kind securities).code) (eb : b ≡ (h.book_kind cash).code)
    (r : Answer) (is : r ≡ format_answer pairs (means d))
    (after : no_room pairs (means d).size ≡ false
    → Formats (header_bytes (format_header a b pairs)) pairs (means d) (means e))
    (trace : IsTrace makes (format_calls (header_bytes (format_header a b pairs)) pairs (means d).size
    (means d).calls_left) d e) where
  -- the calls of a format that has room
  abbrev made : ℕ → List DeviceCall
  made left = take (left + 1)
      (writing 0
      zeros ∷ syncing ∷ (mark_writes pairs ++ (syncing ∷ writing 0
      (header_bytes (format_header a b pairs)) ∷ syncing ∷ [])))

  pub after-format : FormatLeaves makes means h pairs d r e
  after-format = record {
    answer = sym is;
    unchanged = λ n. sym (subst (λ b. IsTrace makes (cond b [] (made (means d).calls_left)) d e) n trace);
    after = λ n. subst (λ head. Formats (header_bytes head) pairs (means d) (means e))
        (same-header h a b pairs ea eb) (after n);
    trace = subst (λ head. IsTrace makes
        (format_calls (header_bytes head) pairs (means d).size (means d).calls_left) d e)
        (same-header h a b pairs ea eb) trace;
  }

-- a format that is answered 0 had calls enough
format-calls : (pairs : ℕ) (m : Medium) → format_answer pairs m ≡ Ok tt → pairs + 4 < m.calls_left
format-calls pairs m e = grind (arith, e)

module _ {D : Type 0} (makes : D → DeviceCall → D → Type 0) (means : D → Medium) (h : Rulebook) (most pairs : ℕ)
    (d : D) (books : Side → Holdings) (c₁ : (h.book_kind securities).code < 256)
    (c₂ : (h.book_kind cash).code < 256) (bounds : (x : D) → IsBounded (means x)) where
  module _ (e : D) (f : FormatLeaves makes means h pairs d (Ok tt) e) where
    roomy : no_room pairs (means d).size ≡ false
    roomy = has-room pairs (means d) f.answer

    paired : IsPairCount pairs
    paired = (room pairs (means d).size roomy).paired

    -- nothing stands yet, nothing is in hand, and no slip is owed
    kept : KeepsTally h pairs empty_tally (moment_in (shut (means e) books) None)
    kept = (
      record {
        journal = fresh-journal (header_for_books h pairs) (means d) (means e) (omega (arith, paired.few))
            (format-calls pairs (means d) f.answer) (f.after roomy);
        lawful = record { standing = empty; runs = start; next = λ x q. absurd cc };
        size = omega (arith, (room pairs (means d).size roomy).within, (f.after roomy).size);
      },
      refl,
    )

  -- what `serve` promises, from the path of its calls
  pub served : {cs : List Order} {rs : List Reply} {n z : Moment} {e f : D}
      → FormatLeaves makes means h pairs d (Ok tt) e → n ≡ moment_in (shut (means e) books) None
      → Path makes means h most n e cs rs z f → Survives makes means h most pairs d books cs rs z f
  served {cs} {rs} {n} {z} {e} {f} after en path = record {
    run = record { device = e; format = after; path = subst (λ a. Path makes means h most a e cs rs z f) en path };
    law = λ cs rs b f run. law h most pairs (paired run.device run.format) c₁ c₂ makes means bounds
        (kept run.device run.format) refl run.path;
    also = λ cs rs b f run. also h most pairs (paired run.device run.format) c₁ c₂ makes means bounds
        (kept run.device run.format) refl run.path;
    lasts = lasts-are-unique;
  }
