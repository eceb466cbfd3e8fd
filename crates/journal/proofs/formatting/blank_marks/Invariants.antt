use Rattle.device.specs.Traces.{IsTrace}
use Rattle.journal.specs.Format.{mark_writes}
use Rattle.journal.proofs.Blanks.{Blanking}
use Rattle.journal.proofs.formatting.blank_marks.Given as goal

abbrev pub invariant-loop-entry : goal.invariant-loop-entry
invariant-loop-entry g l =
    Blanking l.entry (g.D.Device.medium l.initial.device) (g.D.Device.medium l.device)
    × IsTrace g.D.Device.makes (mark_writes l.entry) l.initial.device l.device
