use Rattle.std.proofs.Common.{◌≡◌, length}
use Rattle.images.specs.Images.{block_count, row}
use Rattle.device.proofs.Answered.{passed, admit_answer-as}
use Rattle.images.proofs.Rows.{row-whole}
use Rattle.images.proofs.Meaning.{write-row}
use Rattle.images.proofs.imaged.Imaged.write.Goals as goal

pub returns-clause-call : goal.returns-clause-call
returns-clause-call g c =
    let d = c.args.self.now in
    let w = g.row.ROW in
    let xs = d.image.items in
    let b = c.args.block in
    let bytes = c.args.bytes.now in
    let ok = admit_answer-as d.size (block_count w xs) d.calls_left b (length bytes) d.sized c.in_ok-admit.ensures.answer in
    let here = passed (block_count w xs) d.calls_left b (length bytes) ok in
    let wide = row-whole w xs b here.in-range in
    let whole : c.unwrap.result.now ≡ bytes = (rw c.unwrap.ensures at c.as_array.ensures.cases).same in
    let r = g.F.RowFormat.row_after_write (row w xs b) bytes in
    let shows = g.met.F.RowFormat.reads_back (row w xs b) bytes wide here.whole in
    rw (c.store.ensures.image, c.store.ensures.calls_left, whole)
    (write-row w g.F.RowFormat.shown_bytes g.F.RowFormat.is_loose xs d.calls_left b bytes r ok (g.met.F.RowFormat.keeps_width (row w xs b) bytes wide here.whole) shows)
