-- The numbers and places of the refusals, as operators know them.
use Rattle.std.specs.Prelude.{◌≡◌, ℕ, true, if◌then◌else◌, List, [], ◌∷◌, Ok, Err, Result, ◌==◌}
use Rattle.std.specs.List.{AllByRecursion, list_any}
use Rattle.refusals.specs.declared.Fault.{Fault}
use Rattle.refusals.specs.declared.Place.{Place}
use Rattle.refusals.specs.declared.Place.TheVariants.{Device, Book, Trades, Journal, Engine, Script}
use Rattle.refusals.specs.declared.Refusal.{Refusal}
use Rattle.refusals.specs.declared.Refusal.TheVariants.{NoBlock, NotABlock, NoCalls, Unreadable, NoAccount, NoItem, NoQuantity, OverCeiling, OverFree, OverBlocked, NoTrade, StrayField, UnknownKind, SameParties, EverEntered, WrongState, JournalFull, OpeningRefused, EngineDown, NotAHeader, OtherKinds, TooFewBlocks, Malformed, RulesRefuse, NoRoom, UnlistedLine, InputTooLong}

-- The variants of `Refusal` say what each means (src/lib.rt).
abbrev pub number_of : Refusal → ℕ
number_of NoBlock = 11
number_of NotABlock = 12
number_of NoCalls = 13
number_of Unreadable = 14
number_of NoAccount = 21
number_of NoItem = 22
number_of NoQuantity = 23
number_of OverCeiling = 24
number_of OverFree = 25
number_of OverBlocked = 26
number_of NoTrade = 30
number_of StrayField = 31
number_of UnknownKind = 32
number_of SameParties = 33
number_of EverEntered = 34
number_of WrongState = 35
number_of JournalFull = 36
number_of OpeningRefused = 41
number_of EngineDown = 42
number_of NotAHeader = 43
number_of OtherKinds = 44
number_of TooFewBlocks = 45
number_of Malformed = 46
number_of RulesRefuse = 47
number_of NoRoom = 61
number_of UnlistedLine = 71
number_of InputTooLong = 73

-- The refusal with this number. What is no number of a refusal reads as 61; promises name none.
abbrev pub numbered : ℕ → Refusal
numbered n =
    if n == 11 then NoBlock else
    if n == 12 then NotABlock else
    if n == 13 then NoCalls else
    if n == 14 then Unreadable else
    if n == 21 then NoAccount else
    if n == 22 then NoItem else
    if n == 23 then NoQuantity else
    if n == 24 then OverCeiling else
    if n == 25 then OverFree else
    if n == 26 then OverBlocked else
    if n == 30 then NoTrade else
    if n == 31 then StrayField else
    if n == 32 then UnknownKind else
    if n == 33 then SameParties else
    if n == 34 then EverEntered else
    if n == 35 then WrongState else
    if n == 36 then JournalFull else
    if n == 41 then OpeningRefused else
    if n == 42 then EngineDown else
    if n == 43 then NotAHeader else
    if n == 44 then OtherKinds else
    if n == 45 then TooFewBlocks else
    if n == 46 then Malformed else
    if n == 47 then RulesRefuse else
    if n == 71 then UnlistedLine else
    if n == 73 then InputTooLong else
    NoRoom

-- all of the numbers
abbrev pub numbers : List ℕ
numbers =
    11 ∷ 12 ∷ 13 ∷ 14 ∷ 21 ∷ 22 ∷ 23 ∷ 24 ∷ 25 ∷ 26 ∷ 30 ∷ 31 ∷ 32 ∷ 33 ∷ 34 ∷ 35 ∷ 36
    ∷ 41 ∷ 42 ∷ 43 ∷ 44 ∷ 45 ∷ 46 ∷ 47 ∷ 61 ∷ 71 ∷ 73 ∷ []

-- the number of an answer: 0 where the call is accepted, else the refusal's
abbrev pub answer_number : Result (Unit {0}) Refusal → ℕ
answer_number (Ok u) = 0
answer_number (Err r) = number_of r

-- the same where a refusal comes as a fault
abbrev pub fault_number : Result (Unit {0}) Fault → ℕ
fault_number (Ok u) = 0
fault_number (Err f) = number_of f.refusal

-- the part that refuses
abbrev pub place_of : Refusal → Place
place_of NoBlock = Device
place_of NotABlock = Device
place_of NoCalls = Device
place_of Unreadable = Device
place_of NoAccount = Book
place_of NoItem = Book
place_of NoQuantity = Book
place_of OverCeiling = Book
place_of OverFree = Book
place_of OverBlocked = Book
place_of NoTrade = Trades
place_of StrayField = Trades
place_of UnknownKind = Trades
place_of SameParties = Trades
place_of EverEntered = Trades
place_of WrongState = Trades
place_of JournalFull = Journal
place_of OpeningRefused = Engine
place_of EngineDown = Engine
place_of NotAHeader = Journal
place_of OtherKinds = Journal
place_of TooFewBlocks = Journal
place_of Malformed = Journal
place_of RulesRefuse = Journal
place_of NoRoom = Journal
place_of UnlistedLine = Script
place_of InputTooLong = Script

-- a refusal and its number determine each other
pub record NumbersTellApart : Type 0 where
  pub back : (r : Refusal) → numbered (number_of r) ≡ r
  pub forth : AllByRecursion (λ n. number_of (numbered n) ≡ n) numbers
  pub complete : (r : Refusal) → list_any (λ n. n == number_of r) numbers ≡ true
  -- so no two refusals share a number
  pub apart : (r s : Refusal) → number_of r ≡ number_of s → r ≡ s
