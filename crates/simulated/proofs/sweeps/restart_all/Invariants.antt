use Rattle.std.proofs.Common.{◌≡◌, drop}
use Rattle.std.specs.Slice.Iter.{iter_rest}
use Rattle.images.specs.Images.{ChangesRows}
use Rattle.simulated.specs.Rows.{loose_count, row_after_restart}
use Rattle.simulated.proofs.sweeps.restart_all.Given as goal

abbrev pub invariant-loop-block : goal.invariant-loop-block
invariant-loop-block l =
    ChangesRows 514 (row_after_restart l.initial.rows.image.items l.remains) l.block l.initial.rows.image.items
    l.rows.image.items
    × (iter_rest l.to_take ≡ drop (loose_count l.initial.rows.image.items l.block) l.remains)
    × (l.rows.size ≡ l.initial.rows.size)
    × (l.rows.calls_left ≡ l.initial.rows.calls_left)
