use Rattle.std.proofs.Common.{◌≡◌}
use Rattle.images.specs.Images.{ChangesRows}
use Rattle.simulated.specs.Rows.{row_after_sync}
use Rattle.simulated.proofs.sweeps.sync_all.Given as goal

abbrev pub invariant-loop-b : goal.invariant-loop-b
invariant-loop-b l =
    ChangesRows 514 row_after_sync l.b l.initial.rows.image.items l.rows.image.items
    × (l.rows.size ≡ l.initial.rows.size)
    × (l.rows.calls_left ≡ l.initial.rows.calls_left)
