use Rattle.std.proofs.Common.{ap, ◌∙◌, map, vec_items, arith}
use Rattle.depository.specs.Orders.{order}
use Rattle.examination.specs.Orders.{orders_for}
use Rattle.examination.proofs.Keys.{keyed}
use Rattle.examination.proofs.answer_script.Goals as goal

pub returns : goal.returns
returns g c =
    let orders = ap (map order) c.as_slice-2.ensures.value ∙ c.in_ok-calls.ensures
    ∙ ap orders_for (c.as_slice.ensures.value ∙ c.in_ok-requests.ensures) in
    keyed g.D.Device.makes g.D.Device.medium _ _ _ c.args.device _ c.args.script.now _ _ _ _
    (vec_items c.answers_for.new.answers) (omega arith) orders c.in_default.ensures
    (c.as_slice-3.ensures.value ∙ c.in_ok-requests.ensures) c.as_slice-4.ensures.value c.answers_for.ensures
