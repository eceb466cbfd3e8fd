use Rattle.std.proofs.Common.{rules}
use Rattle.balances.proofs.New.{fresh-nothing, fresh-full, fresh-within}
use Rattle.balances.proofs.table.Balances.new.Goals as goal

pub invariant_of-result : goal.invariant_of-result
invariant_of-result c = let full = fresh-full in let within = fresh-within in search rules

pub returns : goal.returns
returns c = let e = fresh-nothing in search rules
