-- What a slip says, and the verdict on one.
use Rattle.std.specs.Prelude.{◌≡◌, ℕ, if◌then◌else◌, ◌+◌, Bool, false, ◌&&◌, Some, None, Ok, Err, Option, Result, ◌==◌, ◌≢◌}
use Rattle.refusals.specs.declared.Refusal.{Refusal}
use Rattle.refusals.specs.declared.Place.{Place}
use Rattle.refusals.specs.declared.Place.TheVariants.{Engine}
use Rattle.refusals.specs.Numbers.{number_of}
use Rattle.instruction.specs.declared.Instruction.{Instruction}
use Rattle.engine.specs.declared.slip.Slip.{Slip}
use Rattle.engine.specs.declared.slip.Contents.{Contents}
use Rattle.engine.specs.declared.slip.Verdict.{Verdict}
use Rattle.engine.specs.declared.slip.Verdict.TheVariants.{Same, Stands, Unknown, Differs}

-- what a slip says, if anything
abbrev pub contents : Slip → Option Contents
contents s = s.holds

-- it was neither presented nor filed, and cannot be let go before it is
abbrev pub IsOwed : Slip → Type 0
IsOwed s = s.spent ≡ false

-- what the slip of an engine says whose opening was refused: nothing
abbrev pub unknown_contents : Option Contents
unknown_contents = None

-- the verdicts' numbers, as operators know them
abbrev pub verdict_number : Verdict → ℕ
verdict_number Same = 0
verdict_number Stands = 1
verdict_number Unknown = 53
verdict_number Differs = 54

-- the place of each: the engine
abbrev pub verdict_place : Verdict → Place
verdict_place Same = Engine
verdict_place Stands = Engine
verdict_place Unknown = Engine
verdict_place Differs = Engine

-- the number of what a slip that is presented is answered: the verdict's, or the refusal's
abbrev pub presented_number : Result Verdict Refusal → ℕ
presented_number (Ok v) = verdict_number v
presented_number (Err r) = number_of r

-- no two of these answers share a number
abbrev pub PresentedNumbersDiffer : Type 0
PresentedNumbersDiffer =
    (a b : Result Verdict Refusal) → presented_number a ≡ presented_number b → a ≡ b

abbrev pub same_fields : Instruction → Instruction → Bool
same_fields x y =
    (x.kind == y.kind)
    && (x.account == y.account && (x.counterparty == y.counterparty
    && (x.item == y.item && (x.currency == y.currency && (x.trade == y.trade
    && (x.quantity == y.quantity && x.amount == y.amount))))))

-- an instruction is in hand, and it is the last that was found
abbrev pub is_last_found : Option Instruction → Option Instruction → Bool
is_last_found (Some x) (Some y) = same_fields x y
is_last_found (Some x) None = false
is_last_found None last = false

-- the verdict on a slip that says this, where n entries were found and `last` is the last of them
abbrev pub slip_verdict : Option Contents → ℕ → Option Instruction → Verdict
slip_verdict None n last = Unknown
slip_verdict (Some c) n last =
    if n == c.entries then Same
    else (if n == c.entries + 1 && is_last_found c.hand last then Stands else Differs)

-- The same, as what each verdict means: nothing is said; as many entries were found as stood; one
-- more was found, and it is the instruction in hand; any other case.
abbrev pub HasVerdict : Option Contents → ℕ → Option Instruction → Verdict → Type 0
HasVerdict s n last Unknown = s ≡ None
HasVerdict s n last Same = (c : Contents) × (s ≡ Some c) × (n ≡ c.entries)
HasVerdict s n last Stands =
    (c : Contents) × (s ≡ Some c) × (n ≡ c.entries + 1)
    × ((x : Instruction) × (c.hand ≡ Some x) × (last ≡ Some x))
HasVerdict s n last Differs =
    (c : Contents) × (s ≡ Some c) × (n ≢ c.entries)
    × ((x : Instruction) → n ≡ c.entries + 1 → c.hand ≡ Some x → last ≢ Some x)
