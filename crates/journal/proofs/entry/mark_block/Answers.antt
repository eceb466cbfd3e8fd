use Rattle.std.proofs.Common.{sym, subst, rules}
use Rattle.journal.specs.Places.{MarkPlaces}
use Rattle.journal.proofs.Placing.{mark-placed}
use Rattle.journal.proofs.entry.mark_block.Goals as goal

pub returns-clause-value : goal.returns-clause-value
returns-clause-value c = search rules

pub returns-clause-places : goal.returns-clause-places
returns-clause-places c =
    subst (λ bs. MarkPlaces c.args.entry bs) (sym (returns-clause-value c)) (mark-placed c.args.entry (search rules))
