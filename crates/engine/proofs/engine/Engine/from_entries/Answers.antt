use Rattle.std.proofs.Common.{◌∙◌}
use Rattle.engine.specs.View.{view}
use Rattle.engine.proofs.Opens.{scanned}
use Rattle.engine.proofs.Readings.{refused-traced}
use Rattle.engine.proofs.engine.Engine.from_entries.Goals as goal

pub returns-clause-opened : goal.returns-clause-opened
returns-clause-opened g c = scanned c.args.pairs (rw c.requires.empty at c.in-Ok.ensures.scanned)

pub returns-in-Err-clause-opened : goal.returns-in-Err-clause-opened
returns-in-Err-clause-opened g c =
    c.from_refusal.ensures.refused ∙ scanned c.args.pairs (rw c.requires.empty at c.in-Err.ensures.scanned)

pub returns-in-Err-clause-trace : goal.returns-in-Err-clause-trace
returns-in-Err-clause-trace g c =
    refused-traced g.D.Device.makes _
    (view g.D.Device.medium c.from_refusal.result) c.in-Err.fault _ _ _ c.from_refusal.ensures.refused
    (rw c.from_refusal.ensures.device c.in-Err.ensures.trace)
