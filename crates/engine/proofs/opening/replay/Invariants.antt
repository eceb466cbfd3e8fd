use Rattle.std.proofs.Common.{◌-◌}
use Rattle.ledger.specs.View.{rulebook_of, standing_of}
use Rattle.engine.proofs.Readings.{ReadWhole}
use Rattle.engine.proofs.Scans.{Turn}
use Rattle.engine.proofs.opening.replay.Given as goal

abbrev pub invariant-loop-done : goal.invariant-loop-done
invariant-loop-done g l =
    Turn (rulebook_of g.R.Book.book_kind g.C.Book.book_kind) l.pairs (g.D.Device.medium l.initial.device)
    (standing_of l.initial.ledger) l.done (record { count = l.done; last = l.last }) (g.D.Device.medium l.device)
    (standing_of l.ledger)
    × ReadWhole g.D.Device.makes (g.D.Device.medium l.initial.device).calls_left l.done
    (g.D.Device.medium l.device).calls_left l.initial.device l.device

abbrev pub decreases-loop-done : goal.decreases-loop-done
decreases-loop-done g l = l.pairs - l.done
