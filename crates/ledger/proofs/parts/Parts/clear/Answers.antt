use Rattle.std.proofs.Common.{rules}
use Rattle.ledger.proofs.Views.{fresh}
use Rattle.ledger.proofs.parts.Parts.clear.Goals as goal

pub returns : goal.returns
returns g c = search (rules, fresh)
