use Rattle.std.proofs.Common.{rules}
use Rattle.lots.proofs.Deeds.{fresh-nothing, fresh-whole, fresh-owners}
use Rattle.lots.proofs.table.Lots.new.Goals as goal

pub invariant_of-result : goal.invariant_of-result
invariant_of-result c = let full = fresh-whole in let owned = fresh-owners in search rules

pub returns : goal.returns
returns c = let e = fresh-nothing in search rules
