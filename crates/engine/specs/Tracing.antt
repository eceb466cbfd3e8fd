-- The calls that an engine makes to its device.
use Rattle.std.specs.Prelude.{ℕ, zero, suc, if◌then◌else◌, ◌+◌, List, [], ◌∷◌, ◌++◌, take, Some, None, Ok, Err, Option, Result, nat_lt}
use Rattle.refusals.specs.declared.Fault.{Fault}
use Rattle.refusals.specs.Answers.{if_ok}
use Rattle.instruction.specs.declared.Instruction.{Instruction}
use Rattle.rulebook.specs.Rules.{Rulebook}
use Rattle.device.specs.Medium.{Medium}
use Rattle.device.specs.Traces.{DeviceCall}
use Rattle.journal.specs.Journal.{record_at, mark_at}
use Rattle.journal.specs.Entries.{block_read, write_entry_calls}
use Rattle.engine.specs.declared.engine.FoundEntries.{FoundEntries}
use Rattle.engine.specs.declared.engine.Mode.{Mode}
use Rattle.engine.specs.declared.engine.Mode.TheVariants.{Open, Down, Refused}
use Rattle.engine.specs.View.{View}
use Rattle.engine.specs.Opening.{opening_view}
use Rattle.engine.specs.Instructing.{check_answer}

-- the calls of an instruction: none where a check refuses it
abbrev pub instruct_calls : Rulebook → Instruction → View → List DeviceCall
instruct_calls h x v =
    if_ok (check_answer h x v) (write_entry_calls v.entry_count x v.medium.calls_left) []

-- reading the first n entries, one after another: the mark and the record of each
unfoldable pub entry_reads : ℕ → List DeviceCall
entry_reads zero = []
entry_reads (suc n) = entry_reads n ++ (block_read (mark_at n) ∷ block_read (record_at n) ∷ [])

-- reading entry k: its mark, and its record unless the mark ends the list
abbrev pub turn_reads : Result (Option Instruction) Fault → ℕ → List DeviceCall
turn_reads (Ok None) k = block_read (mark_at k) ∷ []
turn_reads (Ok (Some x)) k = block_read (mark_at k) ∷ block_read (record_at k) ∷ []
turn_reads (Err f) k = block_read (mark_at k) ∷ block_read (record_at k) ∷ []

-- reading a list that was not refused: its entries, and, where it has fewer than the pairs, the
-- mark that ends it
abbrev pub list_reads : ℕ → ℕ → List DeviceCall
list_reads found pairs =
    entry_reads found ++ (if nat_lt found pairs then block_read (mark_at found) ∷ [] else [])

-- reading a list that was refused: the entries up to the one that the fault names; none where the
-- fault names no entry, since the header was refused then
abbrev pub refused_reads : Option ℕ → List DeviceCall
refused_reads None = []
refused_reads (Some k) = entry_reads (k + 1)

-- what is read after the header, by what the recovery answered
abbrev pub recovery_reads : Result FoundEntries Fault → ℕ → List DeviceCall
recovery_reads (Ok found) pairs = list_reads found.count pairs
recovery_reads (Err f) pairs = refused_reads f.entry

-- and by what the engine is after the opening
abbrev pub view_reads : Mode → View → List DeviceCall
view_reads Open v = list_reads v.found v.pairs
view_reads (Down x) v = []
view_reads (Refused f) v = refused_reads f.entry

-- Those of an opening: the header's, then mark and record of each entry, up to the first that
-- finds no call left.
abbrev pub opening_calls : Rulebook → Medium → List DeviceCall
opening_calls h m =
    let v = opening_view h m in take (m.calls_left + 1) (block_read 0 ∷ view_reads v.mode v)
