use Rattle.std.proofs.Common.{refl, ap, ◌∙◌}
use Rattle.std.specs.List.{flat_map}
use Rattle.std.proofs.lemmas.List.{take_all}
use Rattle.check_drill.proofs.Joins.{join-row}
use Rattle.check_drill.proofs.pictures.image_with.Goals as goal

pub loop-row-preserved : goal.loop-row-preserved
loop-row-preserved g c =
    join-row g.K.DeviceKind.image_row c.args.rows.now c.loop-row.row-index _ _ _ c.loop-row-test.true
    c.loop-row.invariant (c.in_ok-add_row.ensures refl)

pub returns : goal.returns
returns g c =
    c.loop-row.invariant
    ∙ ap (flat_map g.K.DeviceKind.image_row) (take_all c.loop-row.row-index c.args.rows.now c.loop-row-test.false)
