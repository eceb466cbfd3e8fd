-- What a drill shows of any powered device: m is the device before, and m' the device after. The
-- block s is written and synced, and the block l is written after it and left loose; they may be
-- one.
use Rattle.std.specs.Prelude.{◌≡◌, ℕ, ◌-◌, true, false, List, [], ◌∷◌, length, replicate, Some, Ok, Err, Option, Result, ◌≢◌, slice_index}
use Rattle.refusals.specs.declared.Fault.{Fault}
use Rattle.refusals.specs.Answers.{if_ok}
use Rattle.refusals.specs.Numbers.{number_of}
use Rattle.device.specs.declared.TheConstants.{BLOCK_SIZE}
use Rattle.device.specs.Medium.{Medium}
use Rattle.device.specs.Calls.{Answer, admit_answer, write_answer, spend_answer, and_then, content_answer, buffer_after, read_answer, SameElsewhere, SameBlocks}
use Rattle.device.specs.Traces.{DeviceCall, writing, syncing}
use Rattle.check_drill.specs.declared.exercise.Ends.{Ends}

-- the answer to the first write, of n bytes, and the sync: that of the first call that refuses
abbrev pub first_answer : (m : Medium) (s n : ℕ) → Answer
first_answer m s n = and_then (write_answer m s n) (spend_answer (m.calls_left - 1))

-- the answer to the second write, where those two were accepted
abbrev pub second_answer : (m : Medium) (l n : ℕ) → Answer
second_answer m l n = admit_answer m.size (m.calls_left - 2) l n

-- the answer to all three
abbrev pub writes_answer : (m : Medium) (s l n : ℕ) → Answer
writes_answer m s l n = and_then (first_answer m s n) (second_answer m l n)

-- the calls that are left then: each that is accepted spends one
abbrev pub left_after_writes : (m : Medium) (s l n : ℕ) → ℕ
left_after_writes m s l n =
    if_ok (write_answer m s n)
    (if_ok (spend_answer (m.calls_left - 1))
    (if_ok (second_answer m l n) (m.calls_left - 3) (m.calls_left - 2)) (m.calls_left - 1))
    m.calls_left

-- the calls that are made: those three up to the first that refuses, and `after_writes` where none
-- does
abbrev pub drill_calls : (m : Medium) (s l : ℕ) (bytes : List ℕ) (after_writes : List DeviceCall)
    → List DeviceCall
drill_calls m s l bytes after_writes =
    writing s bytes
    ∷ if_ok (write_answer m s (length bytes))
    (syncing
    ∷ if_ok (spend_answer (m.calls_left - 1))
    (writing l bytes ∷ if_ok (second_answer m l (length bytes)) after_writes []) [])
    []

-- The first write was refused with the fault e: nothing changed, but that after a 13 its own block
-- may have.
pub record FirstRefusalLeaves (m m' : Medium) (s : ℕ) (e : Fault) : Type 0 where
  pub others : SameElsewhere m m' s
  pub same : (number_of e.refusal ≢ 13) → SameBlocks m m'

-- The first write was accepted and the sync refused: the block holds the bytes, and the others are
-- as they were, but that fewer of them may be loose.
pub record SyncRefusalLeaves (m m' : Medium) (s : ℕ) (bytes : List ℕ) : Type 0 where
  pub here : m'.holds s ≡ Some bytes
  pub others : (k : ℕ) → (k ≢ s) → m'.holds k ≡ m.holds k
  pub loose : (k : ℕ) → (k ≢ s) → m'.loose k ≡ true → m.loose k ≡ true

-- The second write was refused with the fault e: the first block holds the bytes and none is
-- loose, but that after a 13 the second write's block may be loose, and may hold anything.
pub record SecondRefusalLeaves (m m' : Medium) (s l : ℕ) (bytes : List ℕ) (e : Fault)
    : Type 0 where
  pub first : (s ≢ l) → m'.holds s ≡ Some bytes
  pub others : (k : ℕ) → (k ≢ s) → (k ≢ l) → m'.holds k ≡ m.holds k
  pub firm : (k : ℕ) → (k ≢ l) → m'.loose k ≡ false
  pub same : (number_of e.refusal ≢ 13) → m'.holds l ≡ m.holds l
  pub second-firm : (number_of e.refusal ≢ 13) → m'.loose l ≡ false

-- What a refusal leaves, by the call that was refused.
pub record RefusalLeaves (m m' : Medium) (s l : ℕ) (bytes : List ℕ) : Type 0 where
  pub first : (e : Fault) → write_answer m s (length bytes) ≡ Err e → FirstRefusalLeaves m m' s e
  pub sync :
      (e : Fault) → write_answer m s (length bytes) ≡ Ok tt
      → spend_answer (m.calls_left - 1) ≡ Err e → SyncRefusalLeaves m m' s bytes
  pub second :
      (e : Fault) → first_answer m s (length bytes) ≡ Ok tt
      → second_answer m l (length bytes) ≡ Err e → SecondRefusalLeaves m m' s l bytes e

-- All three were accepted: both blocks hold the bytes, and none but the second may be loose.
pub record HasBothBlocks (m m' : Medium) (s l : ℕ) (bytes : List ℕ) : Type 0 where
  pub first : m'.holds s ≡ Some bytes
  pub second : m'.holds l ≡ Some bytes
  pub others : (k : ℕ) → (k ≢ s) → (k ≢ l) → m'.holds k ≡ m.holds k
  pub firm : (k : ℕ) → (k ≢ l) → m'.loose k ≡ false

-- The two writes and the sync between them answer r.
pub record WritesBlocks (m m' : Medium) (s l : ℕ) (bytes : List ℕ) (r : Answer) : Type 0 where
  pub answer : r ≡ writes_answer m s l (length bytes)
  pub calls_left : m'.calls_left ≡ left_after_writes m s l (length bytes)
  pub size : m'.size ≡ m.size
  pub refusal : RefusalLeaves m m' s l bytes
  pub both : writes_answer m s l (length bytes) ≡ Ok tt → HasBothBlocks m m' s l bytes

-- The power is cut, and block b read with `given` calls, which makes the buffer `old` to `new`.
-- What the read answers and leaves in the buffer goes by what the block holds in the end, since a
-- read changes no block.
pub record CutsAndReads (m m' : Medium) (b given : ℕ) (old new : List ℕ) (r : Answer)
    : Type 0 where
  pub answer :
      r ≡ and_then (admit_answer m.size given b (length old)) (content_answer b (m'.holds b))
  pub buffer : new ≡ if_ok r (buffer_after (m'.holds b) old) old
  pub calls_left :
      m'.calls_left ≡ if_ok (admit_answer m.size given b (length old)) (given - 1) given
  pub size : m'.size ≡ m.size
  pub holds : (k : ℕ) → m.loose k ≡ false → m'.holds k ≡ m.holds k
  pub firm : (k : ℕ) → m'.loose k ≡ false

-- All three were accepted, and then the power was cut: what was synced is there, whatever the
-- remains were, and no block is loose. What the second write left is for the kind to say, also
-- where it was made to the first block.
pub record SurvivesCut (m m' : Medium) (s l : ℕ) (bytes : List ℕ) : Type 0 where
  pub first : (s ≢ l) → m'.holds s ≡ Some bytes
  pub others : (k : ℕ) → (k ≢ s) → (k ≢ l) → m'.holds k ≡ m.holds k
  pub firm : (k : ℕ) → m'.loose k ≡ false

-- The answer to a drill of n bytes after which the first block holds `content`: the same three
-- calls, a restart that gives `given` calls, and a read into a buffer of `room` bytes.
abbrev pub drill_answer : (m : Medium) (s l n given room : ℕ) (content : Option (List ℕ)) → Answer
drill_answer m s l n given room content =
    and_then (writes_answer m s l n)
    (and_then (admit_answer m.size given s room) (content_answer s content))

-- the calls that are left then
abbrev pub drill_left : (m : Medium) (s l n given room : ℕ) → ℕ
drill_left m s l n given room =
    if_ok (writes_answer m s l n) (if_ok (admit_answer m.size given s room) (given - 1) given)
    (left_after_writes m s l n)

-- What a drill answers and leaves.
pub record Drills (m m' : Medium) (s l : ℕ) (bytes : List ℕ) (given : ℕ) (old new : List ℕ)
    (r : Answer) : Type 0 where
  pub answer : r ≡ drill_answer m s l (length bytes) given (length old) (m'.holds s)
  -- a refusal leaves the buffer
  pub buffer : new ≡ if_ok r (buffer_after (m'.holds s) old) old
  pub calls_left : m'.calls_left ≡ drill_left m s l (length bytes) given (length old)
  pub size : m'.size ≡ m.size
  pub refusal : RefusalLeaves m m' s l bytes
  pub survives : writes_answer m s l (length bytes) ≡ Ok tt → SurvivesCut m m' s l bytes

-- the first and the last byte of what a read gave
abbrev pub ends_of : Answer → (bytes : List ℕ) → Result Ends Fault
ends_of (Ok x) bytes =
    Ok (record { first = slice_index bytes 0; last = slice_index bytes (BLOCK_SIZE - 1) })
ends_of (Err e) bytes = Err e

-- the answer to a look at block b, whose buffer holds zeros before it
abbrev pub look_answer : (m : Medium) (b : ℕ) → Result Ends Fault
look_answer m b =
    ends_of (read_answer m b BLOCK_SIZE) (buffer_after (m.holds b) (replicate BLOCK_SIZE 0))
