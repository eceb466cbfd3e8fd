use Rattle.std.proofs.Common.{◌≡◌, take, vec_items}
use Rattle.std.specs.List.{flat_map}
use Rattle.check_drill.proofs.pictures.image_with.Given as goal

abbrev pub invariant-loop-row : goal.invariant-loop-row
invariant-loop-row g l = vec_items l.image ≡ flat_map g.K.DeviceKind.image_row (take l.row-index l.rows)
