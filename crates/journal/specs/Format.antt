-- What a format answers and leaves, by the calls left, and the calls that it makes.
use Rattle.std.specs.Prelude.{◌≡◌, ℕ, zero, suc, if◌then◌else◌, ◌+◌, ◌-◌, ◌*◌, ◌<◌, Bool, false, ◌||◌, List, [], ◌∷◌, ◌++◌, take, Some, Ok, Err, ◌==◌, ◌≢◌, nat_lt}
use Rattle.refusals.specs.Faults.{fault, fault_at}
use Rattle.device.specs.Medium.{Medium}
use Rattle.device.specs.Calls.{Answer}
use Rattle.device.specs.Traces.{DeviceCall, writing, syncing}
use Rattle.journal.specs.declared.TheConstants.{MOST_PAIRS}
use Rattle.journal.specs.declared.header.Header.{Header}
use Rattle.journal.specs.Blocks.{zeros}
use Rattle.journal.specs.Journal.{mark_at}

-- the header for books of these kinds, with so many pairs
abbrev pub header_for_kinds : ℕ → ℕ → ℕ → Header
header_for_kinds register cash pairs =
    record { register = register; cash = cash; pairs = pairs }

-- no journal has so many pairs, or the device has too few blocks for them
abbrev pub no_room : ℕ → ℕ → Bool
no_room pairs size =
    nat_lt pairs 1 || (nat_lt MOST_PAIRS pairs || nat_lt size (1 + 2 * pairs))

-- The answer to the calls of a format, by the calls left: zeros in place of a header, a sync,
-- zeros in place of each mark, a sync, the header, a sync.
abbrev pub format_answer : ℕ → Medium → Answer
format_answer pairs m =
    if no_room pairs m.size then Err (fault 61)
    else (if m.calls_left == 0 then Err (fault_at 13 0)
    else (if m.calls_left == 1 then Err (fault 13)
    else (if nat_lt m.calls_left (pairs + 2) then Err (fault_at 13 (mark_at (m.calls_left - 2)))
    else (if m.calls_left == pairs + 2 then Err (fault 13)
    else (if m.calls_left == pairs + 3 then Err (fault_at 13 0)
    else (if m.calls_left == pairs + 4 then Err (fault 13) else Ok tt))))))

-- no mark of so many pairs lies in block b
abbrev pub IsNoMarkBlock : ℕ → ℕ → Type 0
IsNoMarkBlock pairs b = (k : ℕ) → k < pairs → b ≢ mark_at k

-- nor does the header
abbrev pub IsOutside : ℕ → ℕ → Type 0
IsOutside pairs b = (b ≢ 0) × IsNoMarkBlock pairs b

-- What the calls of a format leave, given the bytes of its header, however many of them there was
-- power for. No mark is touched until the header is safely gone, and no header is written until no
-- mark stands.
pub record Formats (header : List ℕ) (pairs : ℕ) (m m' : Medium) : Type 0 where
  pub size : m'.size ≡ m.size
  pub calls_left : m'.calls_left ≡ m.calls_left - (pairs + 5)
  -- blocks of no header and no mark stay as they were
  pub holds : (b : ℕ) → IsOutside pairs b → m'.holds b ≡ m.holds b
  pub loose : (b : ℕ) → IsOutside pairs b → m.loose b ≡ false → m'.loose b ≡ false
  -- zeros take the place of the old header
  pub no_header : 0 < m.calls_left → m.calls_left < pairs + 3 → m'.holds 0 ≡ Some zeros
  pub no_header-firm : 1 < m.calls_left → m.calls_left < pairs + 3 → m'.loose 0 ≡ false
  -- a mark that there was no call for stays as it was
  pub old_mark : (k : ℕ) → k < pairs → m.calls_left < k + 2
      → m'.holds (mark_at k) ≡ m.holds (mark_at k)
  pub old_mark-firm : (k : ℕ) → k < pairs → m.calls_left < k + 2 → m.loose (mark_at k) ≡ false
      → m'.loose (mark_at k) ≡ false
  -- zeros take the place of each other mark
  pub no_mark : (k : ℕ) → k < pairs → k + 2 < m.calls_left → m'.holds (mark_at k) ≡ Some zeros
  pub no_mark-firm : (k : ℕ) → k < pairs → pairs + 2 < m.calls_left
      → m'.loose (mark_at k) ≡ false
  pub new_header : pairs + 3 < m.calls_left → m'.holds 0 ≡ Some header
  pub firm : pairs + 4 < m.calls_left → (b : ℕ) → m'.loose b ≡ false

-- the answer to a write of block b and a sync, by the calls left
abbrev pub write_sync_answer : ℕ → ℕ → Answer
write_sync_answer b calls_left =
    if calls_left == 0 then Err (fault_at 13 b)
    else (if calls_left == 1 then Err (fault 13) else Ok tt)

-- what they leave, given the bytes
pub record WritesAndSyncs (b : ℕ) (bytes : List ℕ) (m m' : Medium) : Type 0 where
  pub size : m'.size ≡ m.size
  pub calls_left : m'.calls_left ≡ m.calls_left - 2
  -- the other blocks stay as they were
  pub holds : (c : ℕ) → (c ≢ b) → m'.holds c ≡ m.holds c
  pub loose : (c : ℕ) → (c ≢ b) → m.loose c ≡ false → m'.loose c ≡ false
  pub new_bytes : 0 < m.calls_left → m'.holds b ≡ Some bytes
  pub firm : 1 < m.calls_left → (c : ℕ) → m'.loose c ≡ false

-- the answer to zeros in place of each mark and a sync, by the calls left
abbrev pub blank_marks_answer : ℕ → ℕ → Answer
blank_marks_answer pairs calls_left =
    if nat_lt calls_left pairs then Err (fault_at 13 (mark_at calls_left))
    else (if calls_left == pairs then Err (fault 13) else Ok tt)

-- what they leave
pub record BlanksMarks (pairs : ℕ) (m m' : Medium) : Type 0 where
  pub size : m'.size ≡ m.size
  pub calls_left : m'.calls_left ≡ m.calls_left - (pairs + 1)
  -- blocks of no mark stay as they were
  pub holds : (b : ℕ) → IsNoMarkBlock pairs b → m'.holds b ≡ m.holds b
  pub loose : (b : ℕ) → IsNoMarkBlock pairs b → m.loose b ≡ false → m'.loose b ≡ false
  pub no_mark : (k : ℕ) → k < pairs → k < m.calls_left → m'.holds (mark_at k) ≡ Some zeros
  -- a mark that there was no call for stays as it was
  pub old_mark : (k : ℕ) → k < pairs → m.calls_left < k
      → m'.holds (mark_at k) ≡ m.holds (mark_at k)
  pub old_mark-firm : (k : ℕ) → k < pairs → m.calls_left < k → m.loose (mark_at k) ≡ false
      → m'.loose (mark_at k) ≡ false
  pub firm : pairs < m.calls_left → (b : ℕ) → m'.loose b ≡ false

-- zeros in place of each of the first n marks
unfoldable pub mark_writes : ℕ → List DeviceCall
mark_writes zero = []
mark_writes (suc n) = mark_writes n ++ (writing (mark_at n) zeros ∷ [])

-- The calls of a format, up to the first that finds no call left; none where there is no room.
abbrev pub format_calls : List ℕ → ℕ → ℕ → ℕ → List DeviceCall
format_calls header pairs size calls_left =
    if no_room pairs size then []
    else take (calls_left + 1) (
    writing 0 zeros ∷ syncing
    ∷ (mark_writes pairs ++ (syncing ∷ writing 0 header ∷ syncing ∷ []))
    )
