use Rattle.std.proofs.Common.{◌≡◌, true, Ok, sym, ◌∙◌, rules}
use Rattle.std.proofs.lemmas.Result.{err_from_is_err_and}
use Rattle.rulebook.specs.Rules.{answer}
use Rattle.rulebook.proofs.Following.{accepted}
use Rattle.ledger.specs.View.{rulebook_of, standing_of}
use Rattle.ledger.proofs.Carried.{accepts}
use Rattle.journal.proofs.Errors.{mapped}
use Rattle.journal.proofs.ReadAnswers.{mark-spends}
use Rattle.engine.proofs.Readings.{both-read}
use Rattle.engine.proofs.opening.replay_entry.Goals as goal

pub returns-in_err-map_err-clause-books : goal.returns-in_err-map_err-clause-books
returns-in_err-map_err-clause-books g c =
    let p = err_from_is_err_and c.from_residual-in_err-map_err.result c.from_residual-in_err-map_err.ensures.1 in
    let q = mapped c.instruct.result c.in_err-map_err.field-0.0 c.in_err-map_err.ensures.cases in
    let e = rw q.1 at c.instruct.ensures in
    rw p.1 e.refusal

-- an instruction that the rules accept takes effect
pub returns-clause-books : goal.returns-clause-books
returns-clause-books g c =
    let h = rulebook_of g.R.Book.book_kind g.C.Book.book_kind in
    let s = standing_of c.args.ledger.now in
    let x = c.in_ok-x.x in
    let is : c.instruct.result ≡ Ok tt = search rules in
    c.instruct.ensures.by_rules.after ∙ accepted h s x (accepts x (answer h s x) (sym c.instruct.ensures.answer ∙ is))

pub returns-in_err-x-clause-trace : goal.returns-in_err-x-clause-trace
returns-in_err-x-clause-trace g c =
    let p = err_from_is_err_and c.from_residual-in_err-x.result c.from_residual-in_err-x.ensures.1 in
    let some = mark-spends (g.D.Device.medium c.args.device.now) c.args.entry true (search rules) in
    rw p.1 (both-read g.D.Device.makes _ _ some c.read_mark.ensures.trace c.read_record.ensures.trace)

pub returns-in_err-map_err-clause-trace : goal.returns-in_err-map_err-clause-trace
returns-in_err-map_err-clause-trace g c =
    let p = err_from_is_err_and c.from_residual-in_err-map_err.result c.from_residual-in_err-map_err.ensures.1 in
    let some = mark-spends (g.D.Device.medium c.args.device.now) c.args.entry true (search rules) in
    rw p.1 (both-read g.D.Device.makes _ _ some c.read_mark.ensures.trace c.read_record.ensures.trace)

pub returns-clause-trace : goal.returns-clause-trace
returns-clause-trace g c =
    let some = mark-spends (g.D.Device.medium c.args.device.now) c.args.entry true (search rules) in
    both-read g.D.Device.makes _ _ some c.read_mark.ensures.trace c.read_record.ensures.trace
