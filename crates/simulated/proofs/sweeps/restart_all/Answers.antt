use Rattle.std.proofs.Common.{◌≡◌, ℕ, ◌+◌, cond, List, get_or, drop, sym, refl, ap, ◌∙◌, subst, arith}
use Rattle.std.proofs.lemmas.List.{get_or-drop}
use Rattle.std.specs.Slice.Iter.{iter_rest}
use Rattle.images.specs.Images.{row, with_row, ChangesRows}
use Rattle.images.proofs.Rows.{room, row-full, each-next, each-more}
use Rattle.simulated.specs.Rows.{is_loose, loose_count, revived_row, row_after_restart}
use Rattle.simulated.proofs.SweepLaws.{restarted-full, taken-more}
use Rattle.simulated.proofs.sweeps.restart_all.Goals as goal

pub loop-block-preserved : goal.loop-block-preserved
loop-block-preserved c =
    let d = c.args.rows.now in
    let xs = d.image.items in
    let rem = c.args.remains.now in
    let b = c.loop-block.block in
    let old = c.loop-block.rows.image.items in
    let to_take = iter_rest c.loop-block.to_take in
    let inv = c.loop-block.invariant in
    let was = row 514 old b in
    let fits = room 514 xs b (omega (arith, d.sized)) in
    let next = each-next 514 (row_after_restart xs rem) b xs old inv.0 in
    let byte : get_or to_take 0 0 ≡ get_or rem (loose_count xs b) 0 =
    ap (λ (zs : List ℕ). get_or zs 0 0) inv.1 ∙ get_or-drop (loose_count xs b) rem 0 0
    ∙ ap (λ (n : ℕ). get_or rem n 0) (omega arith) in
    let full = restarted-full xs rem b was (row-full 514 old b (omega (arith, fits, inv.0.len))) in
    let put_is : c.restart_block.new.rows.image.items ≡ with_row 514 old b (row_after_restart xs rem b was) =
    c.restart_block.ensures.image
    ∙ ap (λ (v : ℕ). with_row 514 old b (cond (is_loose was) (revived_row v was) was)) byte in (
      subst (λ (zs : List ℕ). ChangesRows 514 (row_after_restart xs rem) (b + 1) xs zs) (sym put_is)
          (each-more 514 (row_after_restart xs rem) b xs old (row_after_restart xs rem b was) fits inv.0 full refl),
      c.restart_block.ensures.taken ∙ ap (λ (r : List ℕ). cond (is_loose r) (drop 1 to_take) to_take) next
          ∙ ap (λ (zs : List ℕ). cond (is_loose (row 514 xs b)) (drop 1 zs) zs) inv.1 ∙ taken-more xs rem b,
      c.restart_block.ensures.size ∙ inv.2,
      c.restart_block.ensures.calls_left ∙ inv.3,
    )
