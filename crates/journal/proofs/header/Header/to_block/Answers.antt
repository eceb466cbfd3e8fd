use Rattle.std.proofs.Common.{sym, subst, rules}
use Rattle.journal.specs.Places.{HeaderPlaces}
use Rattle.journal.proofs.Placing.{header-placed}
use Rattle.journal.proofs.header.Header.to_block.Goals as goal

pub returns-clause-value : goal.returns-clause-value
returns-clause-value c = search rules

pub returns-clause-places : goal.returns-clause-places
returns-clause-places c =
    subst (λ bs. HeaderPlaces c.args.self.register c.args.self.cash c.args.self.pairs bs)
    (sym (returns-clause-value c)) (header-placed c.args.self (search rules))
