use Rattle.std.proofs.Common.{ℕ, ◌-◌, List, vec_items, ap, ◌∙◌, subst}
use Rattle.refusals.specs.Answers.{if_ok}
use Rattle.device.specs.Calls.{Answer}
use Rattle.images.specs.Images.{block_count, ChangesRows}
use Rattle.images.proofs.Rows.{same-blocks}
use Rattle.simulated.specs.Rows.{row_after_sync, SyncsImage}
use Rattle.simulated.proofs.SweepLaws.{lists-none, short-none, sync-holds, sync-firm}
use Rattle.simulated.proofs.SimulatedDevice.sync.Goals as goal

pub invariant_of-self-3 : goal.invariant_of-self-3
invariant_of-self-3 c =
    let d = c.spend.new.self in
    let xs = d.image.items in
    let ys = c.sync.new.rows.image.items in
    record {
      listed = lists-none c.clear.new.self.list ys
          (sync-firm xs ys (subst (λ (n : ℕ). ChangesRows 514 row_after_sync n xs ys) d.sized c.sync.ensures.image));
      short = short-none c.clear.new.self.list _ c.clear.ensures;
    }

pub returns : goal.returns
returns c =
    let d = c.spend.new.self in
    let xs = c.args.self.now.rows.image.items in
    let ys = c.sync.new.rows.image.items in
    let s = subst (λ (zs : List ℕ). ChangesRows 514 row_after_sync (block_count 514 zs) zs ys) (ap vec_items c.in_ok-spend.ensures.image)
    (subst (λ (n : ℕ). ChangesRows 514 row_after_sync n d.image.items ys) d.sized c.sync.ensures.image) in
    let n = c.args.self.now.rows.calls_left in
    let answer = c.in_ok-spend.ensures.answer in
    let left = c.sync.ensures.calls_left ∙ c.in_ok-spend.ensures.calls_left in
    record {
      call = record {
        answer = answer;
        calls_left = left;
        size = same-blocks 514 xs ys s.len;
        holds = sync-holds xs ys s;
        loose = sync-firm xs ys s;
      };
      kind = record {
        image = subst (λ (r : Answer). SyncsImage r xs ys) answer s;
        calls_left = left ∙ ap (λ (r : Answer). if_ok r (n - 1) n) answer;
      };
    }
