use Rattle.std.proofs.Common.{◌≡◌, arith, rules}
use Rattle.std.proofs.lemmas.Grind.{common_steps}
use Rattle.script.specs.Feeds.{first_line, after_line}
use Rattle.script.proofs.Feeding.{lines_of-none, lines_of-more, splits}
use Rattle.script.proofs.Lines.next_line.Goals as goal

pub returns-then-is_empty-clause-lines : goal.returns-then-is_empty-clause-lines
returns-then-is_empty-clause-lines c = search (rules, lines_of-none)

pub returns-then-is_empty-clause-whole : goal.returns-then-is_empty-clause-whole
returns-then-is_empty-clause-whole c = splits c.args.self.now.rest.now

pub returns-clause-lines : goal.returns-clause-lines
returns-clause-lines c =
    let bs = c.args.self.now.rest.now in
    let front : c.split_at.result.0.now ≡ first_line bs = search rules in
    let rest : c.unwrap_or-self.result.now ≡ after_line bs = grind (arith, common_steps) in
    let more = lines_of-more bs (search rules) in
    cc

pub returns-clause-whole : goal.returns-clause-whole
returns-clause-whole c = splits c.args.self.now.rest.now
