use Rattle.std.proofs.Common.{◌≡◌, ◌<◌, ap, ◌∙◌, List, ℕ, arith}
use Rattle.images.specs.Images.{block_count, row}
use Rattle.images.proofs.Rows.{lent-put, slice-row, row-whole}
use Rattle.images.proofs.imaged.Imaged.store.Goals as goal

pub returns-clause-image : goal.returns-clause-image
returns-clause-image g c =
    let d = c.args.self.now in
    let w = g.row.ROW in
    let b = c.args.block in
    let lent = c.as_mut_slice-image.ensures.value in
    let in-range : b < block_count w d.image.items = omega (arith, c.requires, d.sized) in
    let new = c.store_row.new.row in
    let is : new ≡ g.F.RowFormat.row_after_write (row w d.image.items b) c.args.bytes.now =
    c.store_row.ensures
    ∙ ap (λ (r : List ℕ). g.F.RowFormat.row_after_write r c.args.bytes.now)
    (slice-row w d.image.items c.as_mut_slice-image.result.now b lent) in
    lent-put w d.image c.as_mut_slice-image.result.now b new
    (g.F.RowFormat.row_after_write (row w d.image.items b) c.args.bytes.now) in-range lent is
    (g.met.F.RowFormat.keeps_width (row w d.image.items b) c.args.bytes.now (row-whole w d.image.items b in-range) c.told-bytes)
