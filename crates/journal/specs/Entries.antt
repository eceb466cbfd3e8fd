-- The calls that write and read an entry, and what reading its mark and its record answers.
use Rattle.std.specs.Prelude.{ℕ, if◌then◌else◌, ◌+◌, ◌-◌, Bool, false, List, [], ◌∷◌, take, Some, None, Ok, Err, Option, Result, ◌==◌}
use Rattle.refusals.specs.declared.Refusal.{Refusal}
use Rattle.refusals.specs.declared.Fault.{Fault}
use Rattle.refusals.specs.Faults.{plain, in_entry, fault_at}
use Rattle.instruction.specs.declared.Instruction.{Instruction}
use Rattle.device.specs.declared.TheConstants.{BLOCK_SIZE}
use Rattle.device.specs.Medium.{Medium}
use Rattle.device.specs.Traces.{DeviceCall, reading, writing, syncing}
use Rattle.journal.specs.Journal.{record_at, mark_at}
use Rattle.journal.specs.Blocks.{record_bytes, mark_bytes, is_mark, record_in}

-- The calls that write entry k: its record and a sync, its mark and a sync, up to the first that
-- finds no call left.
abbrev pub write_entry_calls : ℕ → Instruction → ℕ → List DeviceCall
write_entry_calls k x calls_left =
    let record_write = writing (record_at k) (record_bytes k x) in
    let mark_write = writing (mark_at k) (mark_bytes k) in
    take (calls_left + 1) (record_write ∷ syncing ∷ mark_write ∷ syncing ∷ [])

-- a read of a whole block
abbrev pub block_read : ℕ → DeviceCall
block_read b = reading b BLOCK_SIZE

-- the device with another number of calls left
abbrev pub with_calls_left : ℕ → Medium → Medium
with_calls_left n m = record { size = m.size; holds = m.holds; loose = m.loose; calls_left = n }

-- the device after n reads
abbrev pub after_reads : ℕ → Medium → Medium
after_reads n m = with_calls_left (m.calls_left - n) m

-- whether a block is the good mark of entry k; one that cannot be read is not
abbrev pub is_good : ℕ → Option (List ℕ) → Bool
is_good k None = false
is_good k (Some bs) = is_mark k bs

-- whether the mark of entry k is good
abbrev pub read_mark_answer : Medium → ℕ → Result Bool Fault
read_mark_answer m k =
    if m.calls_left == 0 then Err (in_entry k (fault_at 13 (mark_at k)))
    else Ok (is_good k (m.holds (mark_at k)))

-- a refused record is a fault of its entry
abbrev pub as_entry_fault : ℕ → Result Instruction Refusal → Result Instruction Fault
as_entry_fault k (Ok x) = Ok x
as_entry_fault k (Err r) = Err (in_entry k (plain r))

-- what a block says as the record of entry k
abbrev pub record_block_answer : ℕ → Option (List ℕ) → Result Instruction Fault
record_block_answer k None = Err (in_entry k (fault_at 14 (record_at k)))
record_block_answer k (Some bs) = as_entry_fault k (record_in k bs)

-- the instruction that the record of entry k says
abbrev pub read_record_answer : Medium → ℕ → Result Instruction Fault
read_record_answer m k =
    if m.calls_left == 0 then Err (in_entry k (fault_at 13 (record_at k)))
    else record_block_answer k (m.holds (record_at k))
