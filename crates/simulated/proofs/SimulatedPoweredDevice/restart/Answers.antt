use Rattle.std.proofs.Common.{ℕ, subst}
use Rattle.images.specs.Images.{ChangesRows}
use Rattle.images.proofs.Rows.{same-blocks}
use Rattle.simulated.specs.Rows.{row_after_restart}
use Rattle.simulated.proofs.SweepLaws.{lists-none, short-none, restart-holds, restart-firm}
use Rattle.simulated.proofs.SimulatedPoweredDevice.restart.Goals as goal

pub invariant_of-self-3 : goal.invariant_of-self-3
invariant_of-self-3 c =
    let d = c.args.self.now.rows in
    let xs = d.image.items in
    let ys = c.restart_all.new.rows.image.items in
    let rem = c.args.remains.now in
    record {
      listed = lists-none c.clear.new.self.list ys
          (restart-firm xs ys rem (subst (λ (n : ℕ). ChangesRows 514 (row_after_restart xs rem) n xs ys) d.sized c.restart_all.ensures.image));
      short = short-none c.clear.new.self.list _ c.clear.ensures;
    }

pub returns-clause-blocks : goal.returns-clause-blocks
returns-clause-blocks c =
    let d = c.args.self.now.rows in
    let xs = d.image.items in
    let ys = c.restart_all.new.rows.image.items in
    let rem = c.args.remains.now in
    let s =
    subst (λ (n : ℕ). ChangesRows 514 (row_after_restart xs rem) n xs ys) d.sized c.restart_all.ensures.image in
    (same-blocks 514 xs ys s.len, restart-holds xs ys rem s)

pub returns-clause-loose_set : goal.returns-clause-loose_set
returns-clause-loose_set c =
    let d = c.args.self.now.rows in
    let xs = d.image.items in
    let ys = c.restart_all.new.rows.image.items in
    let rem = c.args.remains.now in
    restart-firm xs ys rem
    (subst (λ (n : ℕ). ChangesRows 514 (row_after_restart xs rem) n xs ys) d.sized c.restart_all.ensures.image)
