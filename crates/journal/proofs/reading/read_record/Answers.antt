use Rattle.std.proofs.Common.{arith, rules}
use Rattle.std.proofs.lemmas.Result.{err_from_is_err_and}
use Rattle.std.proofs.lemmas.Grind.{common_steps}
use Rattle.journal.proofs.Errors.{mapped}
use Rattle.journal.proofs.reading.read_record.Goals as goal

pub returns-in_err-map_err-clause-answer : goal.returns-in_err-map_err-clause-answer
returns-in_err-map_err-clause-answer g c =
    let p = err_from_is_err_and c.from_residual.result c.from_residual.ensures.1 in
    let q = mapped c.read.result c.in_err-map_err.field-0.0 c.in_err-map_err.ensures.cases in
    let e = c.read.ensures.call.answer in
    grind (arith, common_steps, p, q, e)

pub returns-clause-answer : goal.returns-clause-answer
returns-clause-answer g c = search rules

pub returns-clause-after : goal.returns-clause-after
returns-clause-after g c = search rules
