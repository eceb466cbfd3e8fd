use Rattle.std.proofs.Common.{◌≡◌, map, take, vec_items}
use Rattle.depository.specs.Orders.{order}
use Rattle.examination.specs.Orders.{orders_for}
use Rattle.examination.proofs.lines.calls_for.Given as goal

abbrev pub invariant-loop-request : goal.invariant-loop-request
invariant-loop-request l = map order (vec_items l.calls) ≡ orders_for (take l.request-index l.requests)
