-- What an opening finds on a device that may hold anything, and why it is refused.
use Rattle.std.specs.Prelude.{◌≡◌, ℕ, ◌+◌, ◌*◌, ◌<◌, ◌≤◌, ◌⊎◌, List, Some, None, Err, Option, ◌≢◌}
use Rattle.refusals.specs.Numbers.{number_of}
use Rattle.refusals.specs.declared.Refusal.{Refusal}
use Rattle.refusals.specs.declared.Fault.{Fault}
use Rattle.instruction.specs.declared.Instruction.{Instruction}
use Rattle.instruction.specs.Layout.{IsEncodable}
use Rattle.rulebook.specs.Terms.{securities, cash}
use Rattle.rulebook.specs.Rules.{Rulebook, Standing, empty, answer, AreAccepted}
use Rattle.device.specs.Medium.{Medium}
use Rattle.journal.specs.declared.header.Header.{Header}
use Rattle.journal.specs.Journal.{record_at, mark_at}
use Rattle.journal.specs.Blocks.{header_bytes, record_bytes, mark_bytes}
use Rattle.journal.specs.Decoding.{IsProperHeader}
use Rattle.journal.specs.Headers.{Fits}
use Rattle.engine.specs.declared.engine.Mode.{Mode}
use Rattle.engine.specs.declared.engine.Mode.TheVariants.{Open, Down, Refused}
use Rattle.engine.specs.View.{View}
use Rattle.engine.specs.Opening.{header_for_books, last_of}
use Rattle.engine.specs.Instructing.{named_trade}
use Rattle.engine.specs.StandingList.{entry_instruction, standing_list}

-- the mark of entry k is good
abbrev pub HasGoodMark : Medium → ℕ → Type 0
HasGoodMark m k = m.holds (mark_at k) ≡ Some (mark_bytes k)

-- On the device m stand the header of a journal for these books and n entries, and they lead to s.
pub record EntriesStand (h : Rulebook) (m : Medium) (pairs n : ℕ) (s : Standing) : Type 0 where
  pub head : m.holds 0 ≡ Some (header_bytes (header_for_books h pairs))
  pub some : 0 < pairs
  -- the device has blocks for all pairs
  pub fits : Fits pairs m
  pub within : n ≤ pairs
  -- each entry has a good mark, and a record that says an instruction
  pub marks : (k : ℕ) → k < n → HasGoodMark m k
  pub records : (k : ℕ) → k < n
      → m.holds (record_at k) ≡ Some (record_bytes k (entry_instruction m k))
  -- the rules accept those instructions one after another, and they lead to s
  pub list : AreAccepted h (standing_list m n) s

-- An engine whose opening was answered 0 found these entries.
pub record FindsEntries (h : Rulebook) (m : Medium) (v : View) : Type 0 where
  pub entries : EntriesStand h m v.pairs v.found v.standing
  -- the list ends where a mark is not good, or after the last pair
  pub stop : v.found < v.pairs → HasGoodMark m v.found → ⊥
  pub last_found : v.last_found ≡ last_of (standing_list m v.found)
  pub entry_count : v.entry_count ≡ v.found

-- a fault with the number n that names this block and this entry, if any, and no trade and no rule
pub record IsFault (n : ℕ) (b k : Option ℕ) (f : Fault) : Type 0 where
  pub number : number_of f.refusal ≡ n
  pub block : f.block ≡ b
  pub entry : f.entry ≡ k
  pub trade : f.trade ≡ None
  pub rule : f.rule ≡ None

-- Why the header is refused with the fault f. Each reason excludes the ones before it.
pub data RefusesHeader (h : Rulebook) (m : Medium) (f : Fault) : Type 0 where
  -- the device has no block
  no-block : m.size ≡ 0 → IsFault 11 (Some 0) None f → RefusesHeader h m f
  -- no call is left
  no-header-call : 0 < m.size → m.calls_left ≡ 0 → IsFault 13 (Some 0) None f → RefusesHeader h m f
  -- block 0 cannot be read
  unreadable-header : 0 < m.size → 0 < m.calls_left → m.holds 0 ≡ None
      → IsFault 14 (Some 0) None f → RefusesHeader h m f
  -- block 0 is no header that a journal can have
  no-header : 0 < m.calls_left → (bs : List ℕ) → m.holds 0 ≡ Some bs
      → ((head : Header) → IsProperHeader head → header_bytes head ≢ bs)
      → IsFault 43 None None f → RefusesHeader h m f
  -- it is the header of a journal for books of other kinds
  other-kinds : 0 < m.calls_left → (head : Header) → IsProperHeader head
      → m.holds 0 ≡ Some (header_bytes head)
      → (head.register ≡ (h.book_kind securities).code → head.cash ≡ (h.book_kind cash).code → ⊥)
      → IsFault 44 None None f → RefusesHeader h m f
  -- the device has too few blocks for its pairs
  too-few-blocks : 0 < m.calls_left → (head : Header) → IsProperHeader head
      → m.holds 0 ≡ Some (header_bytes head)
      → head.register ≡ (h.book_kind securities).code → head.cash ≡ (h.book_kind cash).code
      → m.size < 1 + 2 * head.pairs → IsFault 45 None None f → RefusesHeader h m f

-- the fault of entry k, whose instruction x the rules refuse with r
pub record IsRuleFault (k : ℕ) (x : Instruction) (r : Refusal) (f : Fault) : Type 0 where
  pub number : number_of f.refusal ≡ 47
  pub block : f.block ≡ None
  pub entry : f.entry ≡ Some k
  pub trade : f.trade ≡ named_trade x
  pub rule : f.rule ≡ Some r

-- Why entry k is refused with the fault f, where the entries before it lead to s. One call read
-- the header, and two each of the entries before it.
pub data RefusesEntry (h : Rulebook) (m : Medium) (k : ℕ) (s : Standing) (f : Fault) : Type 0 where
  -- no call is left for the mark
  no-mark-call : m.calls_left ≡ 1 + 2 * k
      → IsFault 13 (Some (mark_at k)) (Some k) f → RefusesEntry h m k s f
  -- the mark is good, and no call is left for the record
  no-record-call : HasGoodMark m k → m.calls_left ≡ 2 + 2 * k
      → IsFault 13 (Some (record_at k)) (Some k) f → RefusesEntry h m k s f
  -- the mark is good, and the record cannot be read
  unreadable-record : HasGoodMark m k → 2 + 2 * k < m.calls_left → m.holds (record_at k) ≡ None
      → IsFault 14 (Some (record_at k)) (Some k) f → RefusesEntry h m k s f
  -- the mark is good, and its block is the record of no instruction
  malformed : HasGoodMark m k → 2 + 2 * k < m.calls_left → (bs : List ℕ)
      → m.holds (record_at k) ≡ Some bs
      → ((x : Instruction) → IsEncodable x → record_bytes k x ≢ bs)
      → IsFault 46 None (Some k) f → RefusesEntry h m k s f
  -- the mark is good, and the rules refuse the instruction of its record
  rules-refuse : HasGoodMark m k → 2 + 2 * k < m.calls_left → (x : Instruction)
      → m.holds (record_at k) ≡ Some (record_bytes k x)
      → (r : Refusal) → answer h s x ≡ Err r → IsRuleFault k x r f → RefusesEntry h m k s f

-- an opening is refused with the fault f at an entry, and the entries before it stand
pub record RefusesList (h : Rulebook) (m : Medium) (f : Fault) : Type 0 where
  pub pairs : ℕ
  pub entry : ℕ
  pub below : entry < pairs
  pub standing : Standing
  pub before : EntriesStand h m pairs entry standing
  pub refused : RefusesEntry h m entry standing f

-- an engine whose opening was refused has no list, and empty books and trades
pub record FindsNothing (v : View) : Type 0 where
  pub standing : v.standing ≡ empty
  pub pairs : v.pairs ≡ 0
  pub found : v.found ≡ 0
  pub last_found : v.last_found ≡ None
  pub entry_count : v.entry_count ≡ 0

-- What an opening promises, by the mode after it. It never ends with an instruction in hand.
abbrev pub Opens : Rulebook → Medium → View → Mode → Type 0
Opens h m v Open = FindsEntries h m v
Opens h m v (Down x) = ⊥
Opens h m v (Refused f) = FindsNothing v × (RefusesHeader h m f ⊎ RefusesList h m f)

-- an opening is not refused where entries stand that it can find, and the calls suffice to read
-- them
abbrev pub OpensIfEnoughCalls : Rulebook → Medium → Mode → Type 0
OpensIfEnoughCalls h m mode =
    (w : View) → FindsEntries h m w → 1 + 2 * w.pairs ≤ m.calls_left → mode ≡ Open
