-- Where each number lies in a journal's blocks, and each block on its device, counted out.
use Rattle.std.specs.Prelude.{◌≡◌, ℕ, ◌+◌, ◌*◌, ◌^◌, ◌<◌, ◌≤◌, List, length, Some, ◌≢◌, slice_index_or}
use Rattle.device.specs.declared.TheConstants.{BLOCK_SIZE}
use Rattle.device.specs.Medium.{Medium}
use Rattle.instruction.specs.declared.Instruction.{Instruction}
use Rattle.instruction.specs.Layout.{bytes_of}

-- the byte at place i, 0 past the end
abbrev pub byte : List ℕ → ℕ → ℕ
byte bs i = slice_index_or bs i 0

-- the number in the four bytes from place i on, the lowest first
abbrev pub four : List ℕ → ℕ → ℕ
four bs i =
    byte bs i + 2 ^ 8 * byte bs (i + 1) + 2 ^ 16 * byte bs (i + 2) + 2 ^ 24 * byte bs (i + 3)

-- only zeros from place n on
abbrev pub ZeroFrom : ℕ → List ℕ → Type 0
ZeroFrom n bs = (i : ℕ) → n ≤ i → byte bs i ≡ 0

pub record HeaderPlaces (register cash pairs : ℕ) (bs : List ℕ) : Type 0 where
  pub long : length bs ≡ BLOCK_SIZE
  pub edition : byte bs 0 ≡ 1
  pub books : byte bs 1 ≡ 2
  pub register-kind : byte bs 2 ≡ register
  pub cash-kind : byte bs 3 ≡ cash
  pub number : four bs 4 ≡ pairs
  pub rest : ZeroFrom 8 bs

pub record RecordPlaces (k : ℕ) (x : Instruction) (bs : List ℕ) : Type 0 where
  pub long : length bs ≡ BLOCK_SIZE
  pub entry : four bs 0 ≡ k
  -- one instruction
  pub count : four bs 4 ≡ 1
  pub instruction : (i : ℕ) → i < 32 → byte bs (8 + i) ≡ byte (bytes_of x) i
  pub rest : ZeroFrom 40 bs

pub record MarkPlaces (k : ℕ) (bs : List ℕ) : Type 0 where
  pub long : length bs ≡ BLOCK_SIZE
  pub entry : four bs 0 ≡ k
  -- the complement of the entry's number
  pub complement : four bs 4 + k + 1 ≡ 2 ^ 32
  pub rest : ZeroFrom 8 bs

-- what a whole format leaves
pub record FormatPlaces (register cash pairs : ℕ) (m m' : Medium) : Type 0 where
  -- the header is in block 0
  pub head : (bs : List ℕ) × (m'.holds 0 ≡ Some bs) × HeaderPlaces register cash pairs bs
  -- the even blocks after it, one for each pair, hold zeros
  pub even : (j : ℕ) → 0 < j → j ≤ pairs
      → (bs : List ℕ) × (m'.holds (2 * j) ≡ Some bs) × (length bs ≡ BLOCK_SIZE) × ZeroFrom 0 bs
  -- all other blocks are as they were
  pub odd : (j : ℕ) → m'.holds (2 * j + 1) ≡ m.holds (2 * j + 1)
  pub beyond : (b : ℕ) → 2 * pairs < b → m'.holds b ≡ m.holds b

-- what a whole writing of entry k leaves
pub record EntryPlaces (k : ℕ) (x : Instruction) (m m' : Medium) : Type 0 where
  -- its record is in the odd block 2k + 1
  pub record_block : (bs : List ℕ) × (m'.holds (2 * k + 1) ≡ Some bs) × RecordPlaces k x bs
  -- its mark is in the even block after that
  pub mark_block : (bs : List ℕ) × (m'.holds (2 * k + 2) ≡ Some bs) × MarkPlaces k bs
  -- all other blocks are as they were
  pub others : (b : ℕ) → b ≢ 2 * k + 1 → b ≢ 2 * k + 2 → m'.holds b ≡ m.holds b
