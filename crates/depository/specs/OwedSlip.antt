-- The slip that a depository owes, if any: the last known one, until an engine judges it.
use Rattle.std.specs.Prelude.{Some, None, Option, is_some, ◌≡◌}
use Rattle.engine.specs.declared.slip.Slip.{Slip}
use Rattle.engine.specs.declared.slip.Contents.{Contents}
use Rattle.engine.specs.ClosingSlip.{contents}

-- what the slip tells, if one is owed
abbrev pub owed_contents : Option Slip → Option Contents
owed_contents None = None
owed_contents (Some slip) = contents slip

-- a slip that is owed is a known one
abbrev pub IsNoneOrKnown : Option Slip → Type 0
IsNoneOrKnown owed = is_some owed ≡ is_some (owed_contents owed)

-- what is owed after a close: what its slip tells, or, where that is unknown, what was owed before
abbrev pub newest_known : Option Contents → Option Contents → Option Contents
newest_known None before = before
newest_known (Some c) before = Some c
