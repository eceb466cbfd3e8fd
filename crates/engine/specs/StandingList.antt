-- The standing list, read off a device, and the blocks of a journal for given books.
use Rattle.std.specs.Prelude.{ℕ, zero, suc, List, [], ◌∷◌, ◌++◌, Some, None, Option}
use Rattle.std.specs.Option.{unwrap_or}
use Rattle.instruction.specs.declared.Instruction.{Instruction}
use Rattle.rulebook.specs.Rules.{Rulebook}
use Rattle.device.specs.Medium.{Medium}
use Rattle.journal.specs.Journal.{JournalBlocks, record_at}
use Rattle.journal.specs.Blocks.{record_in, read_in, no_instruction, journal_blocks}
use Rattle.engine.specs.Opening.{header_for_books}

-- what a block says as the record of entry k, if anything
abbrev pub record_contents : ℕ → Option (List ℕ) → Option Instruction
record_contents k None = None
record_contents k (Some bs) = read_in (record_in k bs)

-- the instruction of entry k, read off the device
abbrev pub entry_instruction : Medium → ℕ → Instruction
entry_instruction m k = unwrap_or (record_contents k (m.holds (record_at k))) no_instruction

-- the standing list: the instructions of the first n entries, in order
unfoldable pub standing_list : Medium → ℕ → List Instruction
standing_list m zero = []
standing_list m (suc n) = standing_list m n ++ (entry_instruction m n ∷ [])

-- the blocks of a journal for these books, with so many pairs
abbrev pub blocks_for_books : Rulebook → ℕ → JournalBlocks Instruction
blocks_for_books h pairs = journal_blocks (header_for_books h pairs)
