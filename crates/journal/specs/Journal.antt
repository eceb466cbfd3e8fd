-- What a journal holds on its device between calls, and what writing an entry answers and leaves.
use Rattle.std.specs.Prelude.{◌≡◌, ℕ, if◌then◌else◌, ◌+◌, ◌-◌, ◌*◌, ◌<◌, ◌≤◌, false, ◌⊎◌, List, length, Some, None, Ok, Err, Option, ◌==◌, ◌≢◌, slice_index_or}
use Rattle.refusals.specs.Faults.{fault, fault_at}
use Rattle.device.specs.Medium.{Medium}
use Rattle.device.specs.Calls.{Answer}

-- the blocks of a journal whose entries say values of X
pub record JournalBlocks (X : Type 0) : Type 0 where
  -- how many entries it has room for
  pub pairs : ℕ
  -- the header's bytes
  pub header : List ℕ
  -- the bytes of the good mark of an entry
  pub mark : ℕ → List ℕ
  -- the bytes of the record of an entry that holds x
  pub record_for : ℕ → X → List ℕ
  -- what a block says as the record of an entry, if anything
  pub read : ℕ → List ℕ → Option X
  -- what a look-up past the list gives
  pub filler : X

-- the block of the record of entry k
abbrev pub record_at : ℕ → ℕ
record_at k = 1 + 2 * k

-- the block of its mark
abbrev pub mark_at : ℕ → ℕ
mark_at k = 2 + 2 * k

-- block b holds these bytes and is not loose, so that a loss of power leaves it so
abbrev pub HoldsFirmly : Medium → ℕ → List ℕ → Type 0
HoldsFirmly m b bs = (m.holds b ≡ Some bs) × (m.loose b ≡ false)

-- the answer to the four calls of entry k, by the calls left: its record, a sync, its mark, a sync
abbrev pub write_entry_answer : Medium → ℕ → Answer
write_entry_answer m k =
    if m.calls_left == 0 then Err (fault_at 13 (record_at k))
    else (if m.calls_left == 1 then Err (fault 13)
    else (if m.calls_left == 2 then Err (fault_at 13 (mark_at k))
    else (if m.calls_left == 3 then Err (fault 13) else Ok tt)))

-- What the four calls of entry k leave, given the bytes of its record and of its mark, however
-- many of the calls there was power for: the mark is touched only once the record is safe.
pub record WritesEntry (entry mark : List ℕ) (k : ℕ) (m m' : Medium) : Type 0 where
  pub size : m'.size ≡ m.size
  pub calls_left : m'.calls_left ≡ m.calls_left - 4
  -- the other blocks stay as they were
  pub holds : (b : ℕ) → (b ≢ record_at k) → (b ≢ mark_at k) → m'.holds b ≡ m.holds b
  pub loose : (b : ℕ) → (b ≢ record_at k) → (b ≢ mark_at k) → m.loose b ≡ false
      → m'.loose b ≡ false
  -- the record is written by the first call, and firm by the second
  pub new_record : 0 < m.calls_left → m'.holds (record_at k) ≡ Some entry
  pub new_record-firm : 1 < m.calls_left → m'.loose (record_at k) ≡ false
  -- until then the mark stays as it was
  pub old_mark : m.calls_left < 2 → m'.holds (mark_at k) ≡ m.holds (mark_at k)
  pub old_mark-firm : m.calls_left < 2 → m.loose (mark_at k) ≡ false
      → m'.loose (mark_at k) ≡ false
  -- the mark is written by the third call, and all is firm by the fourth
  pub new_mark : 2 < m.calls_left → m'.holds (mark_at k) ≡ Some mark
  pub firm : 3 < m.calls_left → (b : ℕ) → m'.loose b ≡ false

module _ {X : Type 0} (L : JournalBlocks X) where
  abbrev pub MarkIsGood : Medium → ℕ → Type 0
  MarkIsGood m k = m.holds (mark_at k) ≡ Some (L.mark k)

  -- the mark is not good, and a loss of power leaves it so
  abbrev pub MarkIsFirmlyBad : Medium → ℕ → Type 0
  MarkIsFirmlyBad m k = (MarkIsGood m k → ⊥) × (m.loose (mark_at k) ≡ false)

  -- the record of entry k says x, and a loss of power leaves it so
  abbrev pub Says : Medium → ℕ → X → Type 0
  Says m k x = (bs : List ℕ) × HoldsFirmly m (record_at k) bs × (L.read k bs ≡ Some x)

  -- What stands at the first unused pair. With nothing in hand, its mark is not good and not
  -- loose. With an instruction in hand, either the mark is not good and not loose; or the record
  -- surely says the instruction, the mark may hold anything, and it is loose only if no calls are
  -- left.
  abbrev pub TailIs : Medium → ℕ → Option X → Type 0
  TailIs m n None = n < L.pairs → MarkIsFirmlyBad m n
  TailIs m n (Some x) =
      (n < L.pairs)
      × (MarkIsFirmlyBad m n ⊎ (Says m n x × ((m.calls_left ≡ 0) ⊎ (m.loose (mark_at n) ≡ false))))

  -- the device keeps the list, and what is in hand, if anything
  pub record Journal (m : Medium) (xs : List X) (hand : Option X) : Type 0 where
    pub head : HoldsFirmly m 0 L.header
    pub room : length xs ≤ L.pairs
    pub records : (k : ℕ) → k < length xs → Says m k (slice_index_or xs k L.filler)
    pub marks : (k : ℕ) → k < length xs → HoldsFirmly m (mark_at k) (L.mark k)
    -- past the first unused pair no mark is good
    pub beyond : (k : ℕ) → length xs < k → k < L.pairs → MarkIsFirmlyBad m k
    pub tail : TailIs m (length xs) hand
