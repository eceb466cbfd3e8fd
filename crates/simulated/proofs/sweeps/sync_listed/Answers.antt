use Rattle.std.proofs.Common.{ℕ, ◌+◌, ◌*◌, ◌<◌, ◌≤◌, List, length, get_or, take, sym, refl, ◌∙◌, subst, inl, inr, arith, div-mul-le_self}
use Rattle.std.proofs.lemmas.Bool.{cases_lt, lt-ltb, le-ltb, cond-true, cond-false}
use Rattle.std.proofs.lemmas.List.{take_all}
use Rattle.images.specs.Images.{row, ChangesRows}
use Rattle.images.proofs.Rows.{row-before, row-full}
use Rattle.simulated.specs.Rows.{row_after_sync}
use Rattle.simulated.specs.Lists.{row_after_listed_sync}
use Rattle.simulated.proofs.RowLaws.{synced-full}
use Rattle.simulated.proofs.ListLaws.{listed-more, listed-past}
use Rattle.simulated.proofs.sweeps.sync_listed.Goals as goal

pub loop-b-preserved : goal.loop-b-preserved
loop-b-preserved c =
    let d = c.args.rows.now in
    let xs = d.image.items in
    let size = d.size in
    let list = c.args.list.now in
    let i = c.loop-b.b-index in
    let b = get_or c.args.list.now c.loop-b.b-index 0 in
    let old = c.loop-b.rows.image.items in
    let inv = c.loop-b.invariant in
    let within = c.loop-b-test.true in
    let fits : 514 * c.args.rows.now.size ≤ length xs = omega (arith, d.sized, div-mul-le_self (length xs) 514) in
    let named = c.sync_named.ensures.image in (
      elim (cases_lt b c.loop-b.rows.size) [
        | inl l ↦
            let lt : get_or c.args.list.now c.loop-b.b-index 0 < c.args.rows.now.size = omega (arith, l, inv.1) in
            let full =
            synced-full 0 (row 514 old b)
            (row-full 514 old b (omega (arith, inv.0.len, fits, row-before 514 b size lt))) in
            subst (λ (zs : List ℕ). ChangesRows 514 (row_after_listed_sync (take (i + 1) list)) size xs zs)
            (sym (named ∙ cond-true _ _ _ (lt-ltb b c.loop-b.rows.size l)))
            (listed-more size xs old list i within fits inv.0 (row_after_sync 0 (row 514 old b)) lt full refl)
        | inr g ↦
            subst (λ (zs : List ℕ). ChangesRows 514 (row_after_listed_sync (take (i + 1) list)) size xs zs)
            (sym (named ∙ cond-false _ _ _ (le-ltb b c.loop-b.rows.size g)))
            (listed-past size xs old list i within fits inv.0 (omega (arith, g, inv.1)))
      ],
      c.sync_named.ensures.size ∙ inv.1,
      c.sync_named.ensures.calls_left ∙ inv.2,
    )

pub returns : goal.returns
returns c = record {
  image =
      subst
      (λ (zs : List ℕ). ChangesRows 514 (row_after_listed_sync zs) c.args.rows.now.size c.args.rows.now.image.items c.loop-b.rows.image.items)
      (take_all c.loop-b.b-index c.args.list.now c.loop-b-test.false) c.loop-b.invariant.0;
  calls_left = c.loop-b.invariant.2;
}
