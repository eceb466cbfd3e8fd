-- The journal's blocks as bytes, both ways: header, record and mark.
use Rattle.std.specs.Prelude.{ℕ, if◌then◌else◌, ◌-◌, ◌^◌, Bool, ◌&&◌, List, ◌∷◌, ◌++◌, take, drop, replicate, Some, None, Ok, Err, Option, Result, ◌==◌, nat_le, nat_lt, slice_index}
use Rattle.std.specs.List.{list_all}
use Rattle.little_endian.specs.Little.{le_bytes}
use Rattle.refusals.specs.declared.Refusal.{Refusal}
use Rattle.refusals.specs.Numbers.{numbered}
use Rattle.instruction.specs.declared.Instruction.{Instruction}
use Rattle.instruction.specs.Layout.{bytes_of, instruction_in, number_at}
use Rattle.device.specs.declared.TheConstants.{BLOCK_SIZE}
use Rattle.journal.specs.declared.TheConstants.{MOST_PAIRS}
use Rattle.journal.specs.declared.header.Header.{Header}
use Rattle.journal.specs.Journal.{JournalBlocks}

-- a block of zeros
abbrev pub zeros : List ℕ
zeros = replicate BLOCK_SIZE 0

-- the edition 1, two books, their kinds, the number of pairs in four bytes, zeros
abbrev pub header_bytes : Header → List ℕ
header_bytes h =
    1 ∷ 2 ∷ h.register ∷ h.cash ∷ (le_bytes 4 h.pairs ++ replicate (BLOCK_SIZE - 8) 0)

-- the entry's number, the count 1 and three zeros, the instruction's 32 bytes, zeros
abbrev pub record_bytes : ℕ → Instruction → List ℕ
record_bytes k x =
    le_bytes 4 k ++ (1 ∷ 0 ∷ 0 ∷ 0 ∷ (bytes_of x ++ replicate (BLOCK_SIZE - 40) 0))

-- the largest number of four bytes, less the entry's number
abbrev pub complement : ℕ → ℕ
complement k = 2 ^ 32 - 1 - k

-- the entry's number, its complement, zeros
abbrev pub mark_bytes : ℕ → List ℕ
mark_bytes k = le_bytes 4 k ++ (le_bytes 4 (complement k) ++ replicate (BLOCK_SIZE - 8) 0)

abbrev pub all_zero : List ℕ → Bool
all_zero bs = list_all (λ b. b == 0) bs

abbrev pub is_header : List ℕ → Bool
is_header bs =
    slice_index bs 0 == 1 && (slice_index bs 1 == 2
    && (nat_lt 0 (number_at 4 4 bs) && (nat_le (number_at 4 4 bs) MOST_PAIRS
    && all_zero (drop 8 bs))))

-- the header that a block holds, or 43
abbrev pub header_in : List ℕ → Result Header Refusal
header_in bs =
    if is_header bs then Ok (record {
      register = slice_index bs 2;
      cash = slice_index bs 3;
      pairs = number_at 4 4 bs;
    })
    else Err (numbered 43)

abbrev pub is_mark : ℕ → List ℕ → Bool
is_mark k bs =
    number_at 0 4 bs == k && (number_at 4 4 bs == complement k && all_zero (drop 8 bs))

abbrev pub is_record : ℕ → List ℕ → Bool
is_record k bs = number_at 0 4 bs == k && (number_at 4 4 bs == 1 && all_zero (drop 40 bs))

-- the instruction in bytes 8 to 39 of the record of entry k, or 46
abbrev pub record_in : ℕ → List ℕ → Result Instruction Refusal
record_in k bs =
    if is_record k bs then instruction_in (take 32 (drop 8 bs)) else Err (numbered 46)

-- the instruction of an answer, if it has one
abbrev pub read_in : Result Instruction Refusal → Option Instruction
read_in (Ok x) = Some x
read_in (Err e) = None

abbrev pub no_instruction : Instruction
no_instruction = record {
  kind = 0;
  account = 0;
  counterparty = 0;
  item = 0;
  currency = 0;
  trade = 0;
  quantity = 0;
  amount = 0;
}

-- the blocks of a journal of instructions that has this header
abbrev pub journal_blocks : Header → JournalBlocks Instruction
journal_blocks h = record {
  pairs = h.pairs;
  header = header_bytes h;
  mark = mark_bytes;
  record_for = record_bytes;
  read = λ k bs. read_in (record_in k bs);
  filler = no_instruction;
}
