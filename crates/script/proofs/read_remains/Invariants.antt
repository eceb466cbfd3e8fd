use Rattle.std.proofs.Common.{◌-◌, length}
use Rattle.script.specs.declared.TheConstants.{MOST_REMAINS}
use Rattle.script.proofs.Cuts.{Going}
use Rattle.script.proofs.read_remains.Given as goal

abbrev pub invariant-loop-remains : goal.invariant-loop-remains
invariant-loop-remains l = Going l.remains l.initial.tokens.rest.now l.tokens.rest.now

abbrev pub decreases-loop-remains : goal.decreases-loop-remains
decreases-loop-remains l = MOST_REMAINS - length l.remains
