use Rattle.std.proofs.Common.{◌+◌, List, ℕ, refl, sym, ◌∙◌, subst, arith}
use Rattle.images.specs.Images.{row, ChangesRows}
use Rattle.images.proofs.Rows.{room, row-full, each-more}
use Rattle.simulated.specs.Rows.{row_after_sync}
use Rattle.simulated.proofs.RowLaws.{synced-full}
use Rattle.simulated.proofs.sweeps.sync_all.Goals as goal

pub loop-b-preserved : goal.loop-b-preserved
loop-b-preserved c =
    let d = c.args.rows.now in
    let xs = d.image.items in
    let old = c.loop-b.rows.image.items in
    let b = c.loop-b.b in
    let inv = c.loop-b.invariant in
    let fits = room 514 xs b (omega (arith, d.sized)) in
    let full = synced-full b (row 514 old b) (row-full 514 old b (omega (arith, fits, inv.0.len))) in (
      subst (λ (zs : List ℕ). ChangesRows 514 row_after_sync (b + 1) xs zs) (sym c.sync_block.ensures.image)
          (each-more 514 row_after_sync b xs old (row_after_sync b (row 514 old b)) fits inv.0 full refl),
      c.sync_block.ensures.size ∙ inv.1,
      c.sync_block.ensures.calls_left ∙ inv.2,
    )
