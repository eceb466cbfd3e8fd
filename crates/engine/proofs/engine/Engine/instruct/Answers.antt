use Rattle.std.proofs.Common.{◌≡◌, Ok, Err, [], sym, ap, subst, refl, ◌∙◌, rules}
use Rattle.ledger.specs.View.{rulebook_of}
use Rattle.refusals.specs.Answers.{if_ok}
use Rattle.rulebook.specs.Rules.{fault_about}
use Rattle.device.specs.Traces.{IsTrace}
use Rattle.rulebook.proofs.Following.{accepted}
use Rattle.journal.proofs.Placing.{entry-placed}
use Rattle.journal.specs.Entries.{write_entry_calls}
use Rattle.engine.specs.View.{view}
use Rattle.engine.proofs.Instructs.{carried-out, let-pass}
use Rattle.engine.proofs.Cuts.{enter-done, cut-short, cut-down}
use Rattle.engine.specs.Instructing.{check_answer, TakesInstruction}
use Rattle.engine.proofs.engine.Engine.instruct.Goals as goal

pub returns-clause-done : goal.returns-clause-done
returns-clause-done g c =
    let h = rulebook_of g.R.Book.book_kind g.C.Book.book_kind in
    let v = view g.D.Device.medium c.args.self.now in
    let x = c.args.x.now in
    carried-out {h = h} {x = x} {v = v} (search rules) (search rules) (λ p. record {
      mode = p.mode;
      medium = c.write_entry.ensures.after;
      standing = c.instruct.ensures.by_rules.after ∙ accepted h v.standing x p.accepted;
      pairs = refl;
      found = refl;
      last_found = refl;
      entry_count = refl;
    })

pub returns-in-Err-clause-trace : goal.returns-in-Err-clause-trace
returns-in-Err-clause-trace g c =
    let h = rulebook_of g.R.Book.book_kind g.C.Book.book_kind in
    let x = c.args.x.now in
    let v = view g.D.Device.medium c.args.self.now in
    let passed : check_answer h x v ≡ Ok tt = search rules in
    subst (λ a. IsTrace g.D.Device.makes
    (if_ok a
    (write_entry_calls v.entry_count x v.medium.calls_left) []) c.args.self.now.device c.write_entry.new.device)
    (sym passed) c.in-Err.ensures.trace

pub returns-in_err-check-clause-cut : goal.returns-in_err-check-clause-cut
returns-in_err-check-clause-cut g c =
    let h = rulebook_of g.R.Book.book_kind g.C.Book.book_kind in
    let v = view g.D.Device.medium c.args.self.now in
    let done : TakesInstruction h c.args.x.now v v c.from_residual.result = search rules in
    cut-short h c.args.x.now v v done

pub returns-in-Err-clause-cut : goal.returns-in-Err-clause-cut
returns-in-Err-clause-cut g c =
    let h = rulebook_of g.R.Book.book_kind g.C.Book.book_kind in
    let x = c.args.x.now in
    let v = view g.D.Device.medium c.args.self.now in
    let passed : check_answer h x v ≡ Ok tt = search rules in
    let answered = c.in-Err.ensures.answer in
    cut-down h x v _ (let-pass (sym passed)) (sym answered)
    (ap (λ f. Err f) (c.fault_about.ensures.value ∙ ap (fault_about x) c.in_entry.ensures)) refl

pub returns-clause-places : goal.returns-clause-places
returns-clause-places g c done =
    let v = view g.D.Device.medium c.args.self.now in
    let is : c.write_entry.result ≡ Ok tt = search rules in
    entry-placed v.entry_count c.args.x.now v.medium _ (search rules)
    (enter-done v.medium v.entry_count (sym c.write_entry.ensures.answer ∙ is)) c.write_entry.ensures.after
