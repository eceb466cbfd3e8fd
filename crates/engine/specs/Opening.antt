-- The engine that an opening gives.
use Rattle.std.specs.Prelude.{ℕ, List, [], ◌∷◌, Some, None, Ok, Err, Option, Result}
use Rattle.refusals.specs.declared.Fault.{Fault}
use Rattle.instruction.specs.declared.Instruction.{Instruction}
use Rattle.rulebook.specs.Terms.{securities, cash}
use Rattle.rulebook.specs.Rules.{Rulebook, Standing, empty}
use Rattle.device.specs.Medium.{Medium}
use Rattle.journal.specs.declared.header.Header.{Header}
use Rattle.journal.specs.Format.{header_for_kinds}
use Rattle.journal.specs.Entries.{with_calls_left}
use Rattle.journal.specs.Headers.{after_read_header, read_header_answer}
use Rattle.engine.specs.declared.engine.Mode.TheVariants.{Open, Refused}
use Rattle.engine.specs.declared.engine.FoundEntries.{FoundEntries}
use Rattle.engine.specs.View.{View}
use Rattle.engine.specs.Recovery.{Scan, scan}

-- an engine whose opening was refused with f: books and trades are cleared
abbrev pub refused_view : Fault → Medium → View
refused_view f m = record {
  mode = Refused f;
  medium = m;
  standing = empty;
  pairs = 0;
  found = 0;
  last_found = None;
  entry_count = 0;
}

-- an engine that found the entries r and stands at s
abbrev pub found_view : FoundEntries → ℕ → Medium → Standing → View
found_view r pairs m s = record {
  mode = Open;
  medium = m;
  standing = s;
  pairs = pairs;
  found = r.count;
  last_found = r.last;
  entry_count = r.count;
}

-- by what the recovery answered
abbrev pub outcome_view : Result FoundEntries Fault → ℕ → Medium → Standing → View
outcome_view (Ok r) pairs m s = found_view r pairs m s
outcome_view (Err f) pairs m s = refused_view f m

abbrev pub scan_view : ℕ → Medium → Scan → View
scan_view pairs m z = outcome_view z.outcome pairs (with_calls_left z.calls_left m) z.standing

-- by what the reading of the header answered
abbrev pub view_by_header : Rulebook → Medium → Result ℕ Fault → View
view_by_header h m (Err f) = refused_view f m
view_by_header h m (Ok pairs) = scan_view pairs m (scan h pairs m 0 empty None)

-- the engine that an opening of the device gives
abbrev pub opening_view : Rulebook → Medium → View
opening_view h m =
    view_by_header h (after_read_header m)
    (read_header_answer (h.book_kind securities).code (h.book_kind cash).code m)

-- the header of a journal for these books, with so many pairs
abbrev pub header_for_books : Rulebook → ℕ → Header
header_for_books h pairs =
    header_for_kinds (h.book_kind securities).code (h.book_kind cash).code pairs

-- the last of a list, if any
abbrev pub last_of : List Instruction → Option Instruction
last_of [] = None
last_of (x ∷ []) = Some x
last_of (x ∷ y ∷ ys) = last_of (y ∷ ys)
