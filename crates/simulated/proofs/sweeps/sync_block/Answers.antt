use Rattle.std.proofs.Common.{◌<◌, ap, ◌∙◌, arith}
use Rattle.images.specs.Images.{block_count, row}
use Rattle.images.proofs.Rows.{lent-put, slice-row, row-whole}
use Rattle.simulated.specs.Rows.{row_after_sync}
use Rattle.simulated.proofs.RowLaws.{synced-full}
use Rattle.simulated.proofs.sweeps.sync_block.Goals as goal

pub returns-clause-image : goal.returns-clause-image
returns-clause-image c =
    let d = c.args.rows.now in
    let xs = d.image.items in
    let b = c.args.block in
    let lent = c.as_mut_slice-image.ensures.value in
    let in-range : b < block_count 514 xs = omega (arith, c.requires, d.sized) in
    let r = row_after_sync 0 (row 514 xs b) in
    let full = synced-full 0 (row 514 xs b) (row-whole 514 xs b in-range) in
    lent-put 514 d.image c.as_mut_slice-image.result.now b c.sync_row.new.row r in-range lent
    (c.sync_row.ensures ∙ ap (row_after_sync 0) (slice-row 514 xs c.as_mut_slice-image.result.now b lent)) full
