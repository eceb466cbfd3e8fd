use Rattle.std.proofs.Common.{◌≡◌, ◌+◌, ℕ, List, Bool, cond, sym, ap, ◌∙◌, arith}
use Rattle.images.specs.Images.{row, with_row}
use Rattle.device.proofs.Answered.{write-passed}
use Rattle.images.proofs.Rows.{room, row-whole}
use Rattle.simulated.specs.Rows.{is_loose, loose_count, row_after_write}
use Rattle.simulated.specs.RowLemmas.{written-full, written-loose}
use Rattle.simulated.proofs.ListLaws.{lists-noted, short-noted}
use Rattle.simulated.proofs.SweepLaws.{loose-put, seen-loose}
use Rattle.simulated.proofs.SimulatedDevice.write.Goals as goal

pub invariant_of-self-2 : goal.invariant_of-self-2
invariant_of-self-2 c =
    let d = c.args.self.now in
    let xs = d.rows.image.items in
    let ys = c.write.new.self.image.items in
    let b = c.args.block in
    let bytes = c.args.bytes.now in
    let call = c.in_ok-write.ensures.call in
    let here = write-passed call in
    let wide = row-whole 514 xs b here.in-range in
    let r = row_after_write (row 514 xs b) bytes in
    let n = c.write.new.self.size in
    let size : n ≡ d.rows.size = c.write.new.self.sized ∙ call.elsewhere.size ∙ sym d.rows.sized in
    let loose : is_loose (row 514 xs b) ≡ c.is_some_and-loose.result =
    seen-loose c.row.result (row 514 xs b) c.is_some_and-loose.result d.rows.size b c.is_some_and-loose.ensures
    c.row.ensures.value (omega (arith, here.in-range, d.rows.sized)) in
    let count : loose_count ys n ≡ cond c.is_some_and-loose.result (loose_count xs d.rows.size) (loose_count xs d.rows.size + 1) =
    ap (λ (zs : List ℕ). loose_count zs n) c.in_ok-write.ensures.image ∙ ap (loose_count (with_row 514 xs b r)) size
    ∙ loose-put xs b r (room 514 xs b here.in-range) (written-full (row 514 xs b) bytes wide here.whole)
    (written-loose (row 514 xs b) bytes wide here.whole) d.rows.size (omega (arith, here.in-range, d.rows.sized))
    ∙ ap (λ (t : Bool). cond t (loose_count xs d.rows.size) (loose_count xs d.rows.size + 1)) loose in
    record {
      listed = lists-noted d.loose.list c.note.new.self.list xs ys c.is_some_and-loose.result b c.note.ensures
          call.elsewhere.loose d.listed;
      short = short-noted d.loose.list c.note.new.self.list (loose_count xs d.rows.size) (loose_count ys n)
          c.is_some_and-loose.result b c.note.ensures d.short count;
    }
