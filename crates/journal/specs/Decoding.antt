-- What the functions from bytes answer: the one value that has these bytes, or that none has them.
use Rattle.std.specs.Prelude.{◌≡◌, ℕ, ◌^◌, ◌<◌, ◌≤◌, Bool, true, List, Ok, Err, Result, ◌≢◌}
use Rattle.refusals.specs.declared.Refusal.{Refusal}
use Rattle.refusals.specs.Numbers.{number_of}
use Rattle.instruction.specs.declared.Instruction.{Instruction}
use Rattle.instruction.specs.Layout.{IsEncodable}
use Rattle.journal.specs.declared.TheConstants.{MOST_PAIRS}
use Rattle.journal.specs.declared.header.Header.{Header}
use Rattle.journal.specs.Blocks.{header_bytes, mark_bytes, record_bytes}

-- a header that a journal can have: kinds of a byte each, and 1 to MOST_PAIRS pairs
pub record IsProperHeader (h : Header) : Type 0 where
  pub register : h.register < 2 ^ 8
  pub cash : h.cash < 2 ^ 8
  pub some : 0 < h.pairs
  pub few : h.pairs ≤ MOST_PAIRS

-- 43 where no header has these bytes
abbrev pub ReadsHeader : List ℕ → Result Header Refusal → Type 0
ReadsHeader bs (Ok h) = IsProperHeader h × (header_bytes h ≡ bs)
ReadsHeader bs (Err r) =
    (number_of r ≡ 43) × ((h : Header) → IsProperHeader h → header_bytes h ≢ bs)

-- yes for the good mark of entry k, and only for it
pub record ReadsMark (k : ℕ) (bs : List ℕ) (r : Bool) : Type 0 where
  pub good : r ≡ true → bs ≡ mark_bytes k
  pub only : bs ≡ mark_bytes k → r ≡ true

-- 46 where no record of entry k has these bytes
abbrev pub ReadsRecord : ℕ → List ℕ → Result Instruction Refusal → Type 0
ReadsRecord k bs (Ok x) = record_bytes k x ≡ bs
ReadsRecord k bs (Err r) =
    (number_of r ≡ 46) × ((x : Instruction) → IsEncodable x → record_bytes k x ≢ bs)
