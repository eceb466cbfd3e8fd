-- What reading the header off a device answers and leaves, for books of given kinds.
use Rattle.std.specs.Prelude.{ℕ, if◌then◌else◌, ◌+◌, ◌*◌, ◌≤◌, ◌&&◌, List, Some, None, Ok, Err, Option, Result, ◌==◌, nat_le, nat_lt}
use Rattle.refusals.specs.declared.Refusal.{Refusal}
use Rattle.refusals.specs.declared.Fault.{Fault}
use Rattle.refusals.specs.Faults.{plain, fault, fault_at}
use Rattle.device.specs.Medium.{Medium}
use Rattle.journal.specs.declared.TheConstants.{MOST_PAIRS}
use Rattle.journal.specs.declared.header.Header.{Header}
use Rattle.journal.specs.Blocks.{header_in}
use Rattle.journal.specs.Entries.{after_reads}

-- the pairs of a header that is for these kinds of books, on a device of so many blocks
abbrev pub fitting_pairs : ℕ → ℕ → ℕ → Header → Result ℕ Fault
fitting_pairs register cash size head =
    if head.register == register && head.cash == cash
    then (if nat_lt size (1 + 2 * head.pairs) then Err (fault 45) else Ok head.pairs)
    else Err (fault 44)

abbrev pub header_pairs : ℕ → ℕ → ℕ → Result Header Refusal → Result ℕ Fault
header_pairs register cash size (Ok head) = fitting_pairs register cash size head
header_pairs register cash size (Err r) = Err (plain r)

-- by what block 0 holds, if it can be read
abbrev pub header_block_answer : ℕ → ℕ → ℕ → Option (List ℕ) → Result ℕ Fault
header_block_answer register cash size None = Err (fault_at 14 0)
header_block_answer register cash size (Some bs) = header_pairs register cash size (header_in bs)

-- the number of pairs, or the first check that fails
abbrev pub read_header_answer : ℕ → ℕ → Medium → Result ℕ Fault
read_header_answer register cash m =
    if nat_le m.size 0 then Err (fault_at 11 0)
    else (if m.calls_left == 0 then Err (fault_at 13 0)
    else header_block_answer register cash m.size (m.holds 0))

-- the device after it
abbrev pub after_read_header : Medium → Medium
after_read_header m = if nat_le m.size 0 then m else after_reads 1 m

-- a number of pairs that a journal may have, on a device that has the blocks for them
pub record Fits (pairs : ℕ) (m : Medium) : Type 0 where
  pub few : pairs ≤ MOST_PAIRS
  pub within : 1 + 2 * pairs ≤ m.size
