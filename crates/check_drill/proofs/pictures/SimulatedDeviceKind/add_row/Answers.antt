use Rattle.std.proofs.Common.{refl}
use Rattle.check_drill.specs.Pictures.{half}
use Rattle.check_drill.proofs.Joins.{join-both}
use Rattle.check_drill.proofs.pictures.SimulatedDeviceKind.add_row.Goals as goal

pub returns : goal.returns
returns c ok =
    let r = c.args.row in
    join-both c.args.image.now.items (half r.flag r.kept) (half r.loose r.newer) c.add_half.new.image.items
    c.add_half-2.new.image.items
    (c.in_ok-add_half.ensures refl) (c.add_half-2.ensures ok)
