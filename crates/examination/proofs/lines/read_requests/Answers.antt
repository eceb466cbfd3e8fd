use Rattle.std.proofs.Common.{ap, ◌∙◌, rules, tests}
use Rattle.std.proofs.lemmas.Iterator.{items_from_collect, YieldsList-from_map}
use Rattle.std.proofs.lemmas.Iterator.Consumers.{YieldsList-from_first}
use Rattle.script.specs.Requests.{request_in}
use Rattle.script.specs.Feeds.{lines_of, lines_left}
use Rattle.examination.proofs.lines.read_requests.Goals as goal

pub returns : goal.returns
returns c =
    let left = YieldsList-from_first (λ x. x.now) lines_left (lines_of c.args.script.now)
    (ap lines_left c.map.ensures.source ∙ ap lines_of c.new.ensures) in
    items_from_collect _ c.collect.ensures.ran (YieldsList-from_map _ request_in left c.map.ensures.closure
    (λ x r q k. search (rules, tests)))
