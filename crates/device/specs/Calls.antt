-- What the calls of a device answer and change: m is the device before the call, and m' the device
-- after it.
use Rattle.std.specs.Prelude.{◌≡◌, ℕ, ◌-◌, true, false, not, if◌then◌else◌, List, length, Some, None, Ok, Err, Option, Result, ◌==◌, ◌≢◌, nat_le}
use Rattle.refusals.specs.Answers.{if_ok}
use Rattle.refusals.specs.Numbers.{number_of}
use Rattle.refusals.specs.declared.Fault.{Fault}
use Rattle.refusals.specs.Faults.{fault, fault_at}
use Rattle.device.specs.declared.TheConstants.{BLOCK_SIZE}
use Rattle.device.specs.Medium.{Medium}

-- what a call is answered: it is accepted, or refused with a fault
abbrev pub Answer : Type 0
Answer = Result Unit Fault

-- The checks that a read and a write share, in order, for block b and a buffer of n bytes.
abbrev pub admit_answer : (size calls_left b n : ℕ) → Answer
admit_answer size calls_left b n =
    if nat_le size b then Err (fault_at 11 b)
    else (if not (n == BLOCK_SIZE) then Err (fault_at 12 b)
    else (if calls_left == 0 then Err (fault_at 13 b) else Ok tt))

abbrev pub write_answer : (m : Medium) (b n : ℕ) → Answer
write_answer m b n = admit_answer m.size m.calls_left b n

-- the check of a sync
abbrev pub spend_answer : (calls_left : ℕ) → Answer
spend_answer calls_left = if calls_left == 0 then Err (fault 13) else Ok tt

abbrev pub sync_answer : Medium → Answer
sync_answer m = spend_answer m.calls_left

-- what an admitted read of block b is answered, by what b holds
abbrev pub content_answer : (b : ℕ) → Option (List ℕ) → Answer
content_answer b (Some bytes) = Ok tt
content_answer b None = Err (fault_at 14 b)

-- the buffer after an admitted read of a block that holds this
abbrev pub buffer_after : Option (List ℕ) → (old : List ℕ) → List ℕ
buffer_after (Some bytes) old = bytes
buffer_after None old = old

-- the first answer if it is a refusal, else the second
abbrev pub and_then : Answer → Answer → Answer
and_then (Ok x) next = next
and_then (Err e) next = Err e

abbrev pub read_answer : (m : Medium) (b n : ℕ) → Answer
read_answer m b n = and_then (write_answer m b n) (content_answer b (m.holds b))

-- Nothing but the number of calls left may differ.
pub record SameBlocks (m m' : Medium) : Type 0 where
  pub size : m'.size ≡ m.size
  pub holds : (k : ℕ) → m'.holds k ≡ m.holds k
  pub loose : (k : ℕ) → m'.loose k ≡ m.loose k

-- Nothing but block b and the number of calls left may differ.
pub record SameElsewhere (m m' : Medium) (b : ℕ) : Type 0 where
  pub size : m'.size ≡ m.size
  pub holds : (k : ℕ) → (k ≢ b) → m'.holds k ≡ m.holds k
  pub loose : (k : ℕ) → (k ≢ b) → m'.loose k ≡ m.loose k

-- A read of block b answers r and makes the buffer `old` to `new`. It fills the buffer only if it
-- is accepted, and spends a call also where the block is unreadable.
pub record Read (m m' : Medium) (b : ℕ) (old new : List ℕ) (r : Answer) : Type 0 where
  pub answer : r ≡ read_answer m b (length old)
  pub buffer : new ≡ if_ok r (buffer_after (m.holds b) old) old
  pub calls_left :
      m'.calls_left ≡ if_ok (write_answer m b (length old)) (m.calls_left - 1) m.calls_left
  pub same : SameBlocks m m'

-- What a write leaves of its block b: the bytes, loose or not, if it was accepted; what there was,
-- if it was refused for another reason than that no calls were left. After a 13 nothing is said of
-- b.
abbrev pub WriteLeaves : Answer → (m m' : Medium) (b : ℕ) (bytes : List ℕ) → Type 0
WriteLeaves (Ok x) m m' b bytes = m'.holds b ≡ Some bytes
WriteLeaves (Err e) m m' b bytes = (number_of e.refusal ≢ 13) → SameBlocks m m'

-- A write of bytes to block b answers r.
pub record Write (m m' : Medium) (b : ℕ) (bytes : List ℕ) (r : Answer) : Type 0 where
  pub answer : r ≡ write_answer m b (length bytes)
  pub calls_left : m'.calls_left ≡ if_ok r (m.calls_left - 1) m.calls_left
  pub elsewhere : SameElsewhere m m' b
  pub here : WriteLeaves r m m' b bytes

-- Which blocks a sync leaves loose: none if it was accepted, and no others than before if it was
-- refused.
abbrev pub SyncLeaves : Answer → (m m' : Medium) → Type 0
SyncLeaves (Ok x) m m' = (k : ℕ) → m'.loose k ≡ false
SyncLeaves (Err e) m m' = (k : ℕ) → m'.loose k ≡ true → m.loose k ≡ true

-- A sync answers r.
pub record Sync (m m' : Medium) (r : Answer) : Type 0 where
  pub answer : r ≡ sync_answer m
  pub calls_left : m'.calls_left ≡ if_ok r (m.calls_left - 1) m.calls_left
  pub size : m'.size ≡ m.size
  pub holds : (k : ℕ) → m'.holds k ≡ m.holds k
  pub loose : SyncLeaves r m m'
