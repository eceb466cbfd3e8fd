use Rattle.std.proofs.Common.{◌≡◌, ◌*◌, ◌<◌, ℕ, List, refl, sym, subst, length, cond, get_or, drop, ap, ◌∙◌, arith}
use Rattle.std.proofs.lemmas.Bool.{cond_both}
use Rattle.std.specs.Slice.Iter.{iter_rest}
use Rattle.device.specs.Bytes.{AreBytes}
use Rattle.images.proofs.Splices.{splice-bytes}
use Rattle.images.specs.Images.{block_count, row}
use Rattle.images.proofs.Rows.{lent-put, slice-row, row-whole}
use Rattle.simulated.specs.Rows.{is_loose, revived_row}
use Rattle.simulated.proofs.RowLaws.{revived-any, keeping-full}
use Rattle.simulated.proofs.sweeps.restart_block.Goals as goal

pub returns-clause-image : goal.returns-clause-image
returns-clause-image c =
    let d = c.args.rows.now in
    let xs = d.image.items in
    let b = c.args.block in
    let lent = c.as_mut_slice-image.ensures.value in
    let v = get_or (iter_rest c.args.remains.now) 0 0 in
    let in-range : b < block_count 514 xs = omega (arith, c.requires, d.sized) in
    let was = row 514 xs b in
    let wide = row-whole 514 xs b in-range in
    let r = cond (is_loose was) (revived_row v was) was in
    let full : length r ≡ 514 = cond_both (is_loose was) _ _ (λ zs. length zs ≡ 514)
    (λ _. revived-any (λ zs. length zs ≡ 514) v was wide (λ flag bytes n. keeping-full was bytes flag wide n)) (λ _. wide) in
    lent-put 514 d.image c.as_mut_slice-image.result.now b c.restart_row.new.row r in-range lent
    (c.restart_row.ensures.row ∙ ap (λ (s : List ℕ). cond (is_loose s) (revived_row v s) s) (slice-row 514 xs c.as_mut_slice-image.result.now b lent)) full

pub returns-clause-taken : goal.returns-clause-taken
returns-clause-taken c =
    let left = iter_rest c.args.remains.now in
    c.restart_row.ensures.taken ∙ ap (λ (s : List ℕ). cond (is_loose s) (drop 1 left) left)
    (slice-row 514 c.args.rows.now.image.items c.as_mut_slice-image.result.now c.args.block c.as_mut_slice-image.ensures.value)

pub invariant_of-rows-clause-bytes : goal.invariant_of-rows-clause-bytes
invariant_of-rows-clause-bytes c =
    let d = c.args.rows.now in
    let xs = d.image.items in
    let b = c.args.block in
    let new = c.restart_row.new.row in
    let in-range : b < block_count 514 xs = omega (arith, c.requires, d.sized) in
    let seen = slice-row 514 xs c.as_mut_slice-image.result.now b c.as_mut_slice-image.ensures.value in
    let full : length new ≡ 514 = c.restart_row.auto.row ∙ ap length seen ∙ row-whole 514 xs b in-range in
    subst AreBytes
    (sym (lent-put 514 d.image c.as_mut_slice-image.result.now b new new in-range c.as_mut_slice-image.ensures.value refl full)) (splice-bytes xs (514 * b) new d.bytes c.restart_row.ensures.bytes)
