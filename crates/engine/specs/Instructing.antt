-- What an instruction is answered, and what it leaves of the engine.
use Rattle.std.specs.Prelude.{◌≡◌, ℕ, if◌then◌else◌, ◌+◌, ◌<◌, ◌&&◌, Some, None, Ok, Err, Option, ◌==◌, ◌≢◌, nat_le}
use Rattle.refusals.specs.Numbers.{numbered, number_of, fault_number}
use Rattle.refusals.specs.declared.Fault.{Fault}
use Rattle.refusals.specs.Faults.{in_entry}
use Rattle.instruction.specs.declared.Instruction.{Instruction}
use Rattle.rulebook.specs.Rules.{Rulebook, fault_about, fault_of, answer, fault_answer, effect}
use Rattle.device.specs.Calls.{Answer, and_then}
use Rattle.journal.specs.Journal.{record_at, mark_at, write_entry_answer, WritesEntry}
use Rattle.journal.specs.Blocks.{record_bytes, mark_bytes}
use Rattle.engine.specs.declared.engine.Mode.{Mode}
use Rattle.engine.specs.declared.engine.Mode.TheVariants.{Open, Down, Refused}
use Rattle.engine.specs.View.{View}

-- only an open engine goes on to what comes next
abbrev pub if_open : Mode → Instruction → Answer → Answer
if_open Open x next = next
if_open (Down y) x next = Err (fault_of x (numbered 42))
if_open (Refused f) x next = Err (fault_of x (numbered 41))

-- 36 where all entries are used
abbrev pub room_answer : Instruction → View → Answer
room_answer x v =
    if nat_le v.pairs v.entry_count then Err (fault_of x (numbered 36)) else Ok tt

-- the checks of an instruction in order, before anything is written: the engine, the rules, the
-- room
abbrev pub check_answer : Rulebook → Instruction → View → Answer
check_answer h x v = if_open v.mode x (and_then (fault_answer h v.standing x) (room_answer x v))

-- a fault met within entry k, where x was written
abbrev pub within_entry : Instruction → ℕ → Answer → Answer
within_entry x k (Ok u) = Ok tt
within_entry x k (Err f) = Err (fault_about x (in_entry k f))

-- the answer of an instruction: of the checks, and then of the writing of its entry
abbrev pub instruct_answer : Rulebook → Instruction → View → Answer
instruct_answer h x v =
    and_then (check_answer h x v)
    (within_entry x v.entry_count (write_entry_answer v.medium v.entry_count))

-- The entry is written and firm, and only then books and trades are changed.
pub record Accepts (x : Instruction) (v v' : View) : Type 0 where
  pub mode : v'.mode ≡ Open
  pub medium : WritesEntry (record_bytes v.entry_count x) (mark_bytes v.entry_count) v.entry_count
      v.medium v'.medium
  pub standing : v'.standing ≡ effect v.standing x
  pub pairs : v'.pairs ≡ v.pairs
  pub found : v'.found ≡ v.found
  pub last_found : v'.last_found ≡ v.last_found
  pub entry_count : v'.entry_count ≡ v.entry_count + 1

-- Power went while the entry was written: the instruction is in hand, and books and trades are as
-- they were.
pub record GoesDown (x : Instruction) (v v' : View) : Type 0 where
  pub mode : v'.mode ≡ Down x
  pub medium : WritesEntry (record_bytes v.entry_count x) (mark_bytes v.entry_count) v.entry_count
      v.medium v'.medium
  pub standing : v'.standing ≡ v.standing
  pub pairs : v'.pairs ≡ v.pairs
  pub found : v'.found ≡ v.found
  pub last_found : v'.last_found ≡ v.last_found
  pub entry_count : v'.entry_count ≡ v.entry_count

-- What is left, by what the checks answered and what the writing of the entry did. A check that
-- refuses leaves all as it was.
abbrev pub Leaves : Answer → Answer → Instruction → View → View → Type 0
Leaves (Err f) written x v v' = v' ≡ v
Leaves (Ok u) (Ok w) x v v' = Accepts x v v'
Leaves (Ok u) (Err f) x v v' = GoesDown x v v'

-- an instruction is answered r, and leads the engine from v to v'
pub record TakesInstruction (h : Rulebook) (x : Instruction) (v v' : View) (r : Answer) : Type 0
  where
    pub answer : r ≡ instruct_answer h x v
    pub after : Leaves (check_answer h x v) (write_entry_answer v.medium v.entry_count) x v v'

-- What the checks ask for: the engine is open, the rules accept the instruction, and an entry is
-- left for it.
pub record Passes (h : Rulebook) (x : Instruction) (v : View) : Type 0 where
  pub mode : v.mode ≡ Open
  pub accepted : answer h v.standing x ≡ Ok tt
  pub room : v.entry_count < v.pairs

-- the trade that an instruction names: none where its kind is not 3 to 7
abbrev pub named_trade : Instruction → Option ℕ
named_trade x = if nat_le 3 x.kind && nat_le x.kind 7 then Some x.trade else None

-- what the fault of a refused instruction names: this block and this entry, its trade, and no rule
pub record IsFaultOf (x : Instruction) (b k : Option ℕ) (f : Fault) : Type 0 where
  pub block : f.block ≡ b
  pub entry : f.entry ≡ k
  pub trade : f.trade ≡ named_trade x
  pub rule : f.rule ≡ None

-- The block of the write that found no call left, by the calls left for entry k: that of its
-- record, of its mark, or none where it was a sync that found none.
abbrev pub block_without_call : ℕ → ℕ → Option ℕ
block_without_call k calls_left =
    if calls_left == 0 then Some (record_at k)
    else (if calls_left == 2 then Some (mark_at k) else None)

-- When an instruction takes the engine down, and what its fault names.
pub record TellsWhenDown (h : Rulebook) (x : Instruction) (v v' : View) (r : Answer) : Type 0 where
  -- the answer is 13 only where the instruction passes and the device has fewer than 4 calls left,
  pub only : fault_number r ≡ 13 → Passes h x v × (v.medium.calls_left < 4)
  -- and always there
  pub always : Passes h x v → v.medium.calls_left < 4 → fault_number r ≡ 13
  -- the engine is then down, with the instruction in hand
  pub hand : fault_number r ≡ 13 → v'.mode ≡ Down x
  -- such a fault names the entry, and the block of a write
  pub cut : (f : Fault) → r ≡ Err f → number_of f.refusal ≡ 13
      → IsFaultOf x (block_without_call v.entry_count v.medium.calls_left) (Some v.entry_count) f
  -- a fault of the checks names neither
  pub check : (f : Fault) → r ≡ Err f → number_of f.refusal ≢ 13 → IsFaultOf x None None f
