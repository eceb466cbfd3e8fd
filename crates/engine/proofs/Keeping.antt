-- What a device keeps for an opening to find.
use Rattle.std.proofs.Common.{◌≡◌, ℕ, ◌+◌, ◌*◌, ◌≤◌, ◌⊎◌, List, [], ◌∷◌, ◌++◌, length, Some, None, Ok, Option}
use Rattle.refusals.specs.Numbers.{number_of}
use Rattle.instruction.specs.declared.Instruction.{Instruction}
use Rattle.rulebook.specs.Rules.{Rulebook, Standing, AreAccepted, answer}
use Rattle.device.specs.Medium.{Medium}
use Rattle.device.specs.Calls.{SameBlocks}
use Rattle.journal.specs.Journal.{Journal}
use Rattle.engine.specs.declared.engine.Mode.{Mode}
use Rattle.engine.specs.declared.engine.Mode.TheVariants.{Open, Down, Refused}
use Rattle.engine.specs.View.{View}
use Rattle.engine.specs.Opening.{last_of}
use Rattle.engine.specs.StandingList.{blocks_for_books}

-- the instructions of the list were accepted one after another, and so would be the one in hand
pub record Lawful (h : Rulebook) (xs : List Instruction) (hand : Option Instruction) : Type 0 where
  pub standing : Standing
  pub runs : AreAccepted h xs standing
  pub next : (x : Instruction) → hand ≡ Some x → answer h standing x ≡ Ok tt

-- the list, or the list and what was in hand
abbrev pub WithOrWithout : List Instruction → Option Instruction → List Instruction → Type 0
WithOrWithout xs hand ys = (ys ≡ xs) ⊎ ((x : Instruction) × (hand ≡ Some x) × (ys ≡ xs ++ (x ∷ [])))

-- the engine is open with this list, which its device keeps with nothing in hand
pub record Holding (h : Rulebook) (pairs : ℕ) (ys : List Instruction) (v : View) : Type 0 where
  pub journal : Journal (blocks_for_books h pairs) v.medium ys None
  pub runs : AreAccepted h ys v.standing
  pub room : v.pairs ≡ pairs
  pub entry_count : v.entry_count ≡ length ys
  pub found : v.found ≡ length ys
  pub last_found : v.last_found ≡ last_of ys

-- by the mode after an opening: an open engine holds the list, with or without what was in hand;
-- an opening is refused only for want of calls, and then the device keeps both as it did; and
-- none ends with an instruction half written
abbrev pub FoundBy : Rulebook → ℕ → List Instruction → Option Instruction → View → Mode → Type 0
FoundBy h pairs xs hand v Open = (ys : List Instruction) × WithOrWithout xs hand ys × Holding h pairs ys v
FoundBy h pairs xs hand v (Down x) = ⊥
FoundBy h pairs xs hand v (Refused f) =
    (number_of f.refusal ≡ 13) × Journal (blocks_for_books h pairs) v.medium xs hand

-- What an opening finds on a device that keeps the list and what is in hand. It only reads, and
-- with enough calls it is not refused.
pub record OpenedOn (h : Rulebook) (pairs : ℕ) (m : Medium) (xs : List Instruction) (hand : Option Instruction)
    (v : View) : Type 0 where
  pub same : SameBlocks m v.medium
  pub fewer : v.medium.calls_left ≤ m.calls_left
  pub prompt : 1 + 2 * pairs ≤ m.calls_left → v.mode ≡ Open
  pub found : FoundBy h pairs xs hand v v.mode
