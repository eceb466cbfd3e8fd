use Rattle.std.proofs.Common.{◌≡◌, Some, None, Ok, sym, ◌∙◌, arith, rules}
use Rattle.std.proofs.lemmas.Result.{err_from_is_err_and}
use Rattle.engine.proofs.Readings.{none-read, entry-names, entry-two, entry-more, list-whole, list-stopped, list-refused}
use Rattle.ledger.specs.View.{rulebook_of, standing_of}
use Rattle.engine.proofs.Scans.{all-read, mark-ends, entry-refused, next-turn, entry-read}
use Rattle.engine.proofs.opening.replay.Goals as goal

pub loop-done-init : goal.loop-done-init
loop-done-init g c =
    (search rules, none-read g.D.Device.makes _ _)

pub loop-done-preserved : goal.loop-done-preserved
loop-done-preserved g c =
    let is : c.replay_entry.result ≡ Ok (Some c.in-Some.x) = search rules in
    let e = c.replay_entry.ensures in (
      next-turn c.loop-done.invariant.0 (omega arith) c.in-Some.x
          (rw is at (entry-read {h = rulebook_of g.R.Book.book_kind g.C.Book.book_kind} e.answer e.after e.books)),
      rw (e.after, is) (entry-more g.D.Device.makes c.loop-done.invariant.1 _
          (entry-two (rulebook_of g.R.Book.book_kind g.C.Book.book_kind)
          (standing_of c.loop-done.ledger) c.loop-done.done (g.D.Device.medium c.loop-done.device) c.in-Some.x
          (sym is ∙ e.answer))
          (rw is at e.trace)),
    )

pub returns-then-done-pairs-clause-scanned : goal.returns-then-done-pairs-clause-scanned
returns-then-done-pairs-clause-scanned g c = all-read c.loop-done.invariant.0 (omega arith)

pub returns-in_default-clause-scanned : goal.returns-in_default-clause-scanned
returns-in_default-clause-scanned g c =
    let is : c.replay_entry.result ≡ Ok None = search rules in
    let e = c.replay_entry.ensures in
    mark-ends c.loop-done.invariant.0 (omega arith)
    (rw is at (entry-read {h = rulebook_of g.R.Book.book_kind g.C.Book.book_kind} e.answer e.after e.books))

pub returns-in_err-x-clause-scanned : goal.returns-in_err-x-clause-scanned
returns-in_err-x-clause-scanned g c =
    let p = err_from_is_err_and c.from_residual.result c.from_residual.ensures.1 in
    let e = c.in_err-x.ensures in
    rw (p.1, p.2)
    (entry-refused c.loop-done.invariant.0 (omega arith) _
    (entry-read {h = rulebook_of g.R.Book.book_kind g.C.Book.book_kind} e.answer e.after e.books))

pub returns-then-done-pairs-clause-trace : goal.returns-then-done-pairs-clause-trace
returns-then-done-pairs-clause-trace g c =
    list-whole g.D.Device.makes c.loop-done.invariant.1 c.args.pairs (omega arith)

pub returns-in_default-clause-trace : goal.returns-in_default-clause-trace
returns-in_default-clause-trace g c =
    let is : c.replay_entry.result ≡ Ok None = search rules in
    list-stopped g.D.Device.makes c.loop-done.invariant.1 _ c.args.pairs (omega arith)
    (rw is at c.replay_entry.ensures.trace)

pub returns-in_err-x-clause-trace : goal.returns-in_err-x-clause-trace
returns-in_err-x-clause-trace g c =
    let p = err_from_is_err_and c.from_residual.result c.from_residual.ensures.1 in
    let e = c.in_err-x.ensures in
    rw (p.1, p.2) (list-refused g.D.Device.makes c.loop-done.invariant.1 _ c.in_err-x.field-0.0
    (entry-names (rulebook_of g.R.Book.book_kind g.C.Book.book_kind)
    (standing_of c.loop-done.ledger) c.loop-done.done
    (g.D.Device.medium c.loop-done.device) c.in_err-x.field-0.0 e.answer) e.trace)
