-- The engine that an opening gives.
use Rattle.std.proofs.Common.{◌≡◌, ℕ, Result, refl}
use Rattle.refusals.specs.declared.Fault.{Fault}
use Rattle.rulebook.specs.Terms.{securities, cash}
use Rattle.rulebook.specs.Rules.{Rulebook, Standing}
use Rattle.device.specs.Medium.{Medium}
use Rattle.journal.specs.Headers.{after_read_header, read_header_answer}
use Rattle.engine.specs.declared.engine.FoundEntries.{FoundEntries}
use Rattle.engine.specs.Recovery.{Scan, FollowsScan}
use Rattle.engine.specs.Opening.{outcome_view, scan_view, view_by_header, opening_view}

-- the view of what a recovery answered, with the device and the standing after it
pub scanned : (pairs : ℕ) {m m' : Medium} {s : Standing} {z : Scan} {r : Result FoundEntries Fault}
    → FollowsScan z m m' s r → outcome_view r pairs m' s ≡ scan_view pairs m z
scanned pairs e = rw (e.answer, e.device, e.books) refl

-- what an opening gives, from the kinds that the books answer
pub headed : (h : Rulebook) (m : Medium) {m₁ : Medium} {a b : ℕ} {r : Result ℕ Fault}
    → a ≡ (h.book_kind securities).code → b ≡ (h.book_kind cash).code → m₁ ≡ after_read_header m
    → r ≡ read_header_answer a b m → view_by_header h m₁ r ≡ opening_view h m
headed h m ea eb em er = rw (em, er, ea, eb) refl
