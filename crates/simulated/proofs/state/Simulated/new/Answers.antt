use Rattle.simulated.proofs.Kind.{fixed, reads}
use Rattle.simulated.proofs.state.Simulated.new.Goals as goal

pub returns-clause-fixed : goal.returns-clause-fixed
returns-clause-fixed c = fixed

pub returns-clause-reads : goal.returns-clause-reads
returns-clause-reads c = reads
