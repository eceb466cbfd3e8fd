use Rattle.std.proofs.Common.{◌≡◌, take}
use Rattle.images.specs.Images.{ChangesRows}
use Rattle.simulated.specs.Lists.{row_after_listed_sync}
use Rattle.simulated.proofs.sweeps.sync_listed.Given as goal

abbrev pub invariant-loop-b : goal.invariant-loop-b
invariant-loop-b l =
    ChangesRows 514 (row_after_listed_sync (take l.b-index l.list)) l.initial.rows.size l.initial.rows.image.items
    l.rows.image.items
    × (l.rows.size ≡ l.initial.rows.size)
    × (l.rows.calls_left ≡ l.initial.rows.calls_left)
