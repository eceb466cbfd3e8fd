use Rattle.simulated.proofs.RowLaws.{keeping-is}
use Rattle.simulated.proofs.rows.keep.Goals as goal

pub returns : goal.returns
returns c =
    rw c.copy_from_slice.ensures.after
    (keeping-is c.args.row.now c.args.bytes.now c.args.flag c.told-row c.told-bytes)
