-- What an opening reads and carries out after the header, entry by entry.
use Rattle.std.specs.Prelude.{◌≡◌, ℕ, zero, suc, ◌+◌, ◌-◌, Bool, true, false, Some, None, Ok, Err, Option, Result}
use Rattle.refusals.specs.declared.Fault.{Fault}
use Rattle.refusals.specs.Faults.{of_record}
use Rattle.instruction.specs.declared.Instruction.{Instruction}
use Rattle.rulebook.specs.Rules.{Rulebook, Standing, fault_answer, effect}
use Rattle.device.specs.Medium.{Medium}
use Rattle.journal.specs.Entries.{after_reads, read_mark_answer, read_record_answer, with_calls_left}
use Rattle.engine.specs.declared.engine.FoundEntries.{FoundEntries}

-- the instruction of entry k, where the rules accept it; else their fault, as one of the record
abbrev pub rules_answer : ℕ → Instruction → Result (Unit {0}) Fault
    → Result (Option Instruction) Fault
rules_answer k x (Ok u) = Ok (Some x)
rules_answer k x (Err f) = Err (of_record k f)

-- by what the reading of the record answered
abbrev pub answer_by_record : Rulebook → Standing → ℕ → Result Instruction Fault
    → Result (Option Instruction) Fault
answer_by_record h s k (Ok x) = rules_answer k x (fault_answer h s x)
answer_by_record h s k (Err f) = Err f

-- by what the reading of the mark answered
abbrev pub answer_by_mark : Rulebook → Medium → Standing → ℕ → Result Bool Fault
    → Result (Option Instruction) Fault
answer_by_mark h m s k (Err f) = Err f
answer_by_mark h m s k (Ok false) = Ok None
answer_by_mark h m s k (Ok true) =
    answer_by_record h s k (read_record_answer (after_reads 1 m) k)

-- entry k, where books and trades stand at s: its instruction, or None where the list ends before
-- it
abbrev pub entry_answer : Rulebook → Medium → Standing → ℕ → Result (Option Instruction) Fault
entry_answer h m s k = answer_by_mark h m s k (read_mark_answer m k)

-- the calls that it takes
abbrev pub calls_spent : Result (Option Instruction) Fault → ℕ
calls_spent (Ok None) = 1
calls_spent (Ok (Some x)) = 2
calls_spent (Err f) = 2

-- books and trades after it
abbrev pub standing_after : Standing → Result (Option Instruction) Fault → Standing
standing_after s (Ok None) = s
standing_after s (Ok (Some x)) = effect s x
standing_after s (Err f) = s

-- what a recovery answers, and the calls left and the books and trades after it
pub record Scan : Type 0 where
  pub outcome : Result FoundEntries Fault
  pub calls_left : ℕ
  pub standing : Standing

-- the end of a recovery that found k entries
abbrev pub scan_end : Medium → ℕ → Standing → Option Instruction → Scan
scan_end m k s last = record {
  outcome = Ok (record { count = k; last = last });
  calls_left = m.calls_left;
  standing = s;
}

-- entry k, and what comes after it
abbrev pub scan_turn : Result (Option Instruction) Fault → Medium → ℕ → Standing
    → Option Instruction → (Instruction → Scan) → Scan
scan_turn (Ok None) m k s last onward = scan_end (after_reads 1 m) k s last
scan_turn (Ok (Some x)) m k s last onward = onward x
scan_turn (Err f) m k s last onward =
    record { outcome = Err f; calls_left = m.calls_left - 2; standing = s }

-- from entry k on, at most n entries; `last` is the instruction before them
unfoldable pub scan : Rulebook → ℕ → Medium → ℕ → Standing → Option Instruction → Scan
scan h zero m k s last = scan_end m k s last
scan h (suc n) m k s last =
    scan_turn (entry_answer h m s k) m k s last
    (λ x. scan h n (after_reads 2 m) (k + 1) (effect s x) (Some x))

-- a recovery answers what z says, and leaves the device and the books and trades so
pub record FollowsScan (z : Scan) (before after : Medium) (s : Standing)
    (r : Result FoundEntries Fault) : Type 0 where
  pub answer : r ≡ z.outcome
  pub device : after ≡ with_calls_left z.calls_left before
  pub books : s ≡ z.standing
