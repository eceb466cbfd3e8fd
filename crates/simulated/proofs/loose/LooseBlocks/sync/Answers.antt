use Rattle.std.proofs.Common.{ℕ, List, subst}
use Rattle.images.specs.Images.{ChangesRows}
use Rattle.simulated.specs.Lists.{ListsLoose, row_after_listed_sync}
use Rattle.simulated.proofs.ListLaws.{listed-all}
use Rattle.simulated.proofs.loose.LooseBlocks.sync.Goals as goal

pub returns-in-Some : goal.returns-in-Some
returns-in-Some c =
    let d = c.args.rows.now in
    let xs = d.image.items in
    let ys = c.sync_listed.new.rows.image.items in
    let list = c.in-Some.list.items in
    let named : ListsLoose list xs = rw c.in-Some.is at c.requires in
    record {
      image = listed-all d.size xs ys list d.sized named
          (subst (λ (zs : List ℕ). ChangesRows 514 (row_after_listed_sync zs) d.size xs ys) c.as_slice.ensures.value c.sync_listed.ensures.image);
      calls_left = c.sync_listed.ensures.calls_left;
    }
