use Rattle.std.proofs.Common.{sym, refl, ap, ◌∙◌, subst₂}
use Rattle.std.proofs.lemmas.Result.{err_from_is_err_and}
use Rattle.rulebook.specs.Rules.{fault_answer}
use Rattle.rulebook.specs.Law.{FollowsRules}
use Rattle.rulebook.proofs.Tables.{state-table}
use Rattle.rulebook.proofs.Whole.{law-of-the-ledger}
use Rattle.ledger.specs.View.{rulebook_of}
use Rattle.ledger.proofs.Views.{stands}
use Rattle.ledger.proofs.Carried.{follows-carried, follows-refused}
use Rattle.ledger.proofs.Ledger.instruct.Goals as goal

pub invariant_of-self : goal.invariant_of-self
invariant_of-self g c =
    let x = c.args.x.now in
    (follows-carried g.R.Book g.C.Book c.self.inside.parts c.carry_out.new.self x _ c.in_ok-kind.ensures.0
    c.in_ok-kind.ensures.1 c.self.invariant c.carry_out.ensures.register c.carry_out.ensures.cash
    c.carry_out.ensures.trades).reachable

pub returns : goal.returns
returns g c =
    let h = rulebook_of g.R.Book.book_kind g.C.Book.book_kind in
    let x = c.args.x.now in
    let old = stands g.R.Book g.C.Book c.self.inside.parts g.met.R.Book.nothing_outside g.met.C.Book.nothing_outside
    c.self.view_is in
    let new = stands g.R.Book g.C.Book c.carry_out.new.self g.met.R.Book.nothing_outside
    g.met.C.Book.nothing_outside refl in
    record {
      answer = sym (ap (λ s. fault_answer h s x) old ∙ c.in_ok-kind.ensures.1);
      by_rules = subst₂ (λ s t. FollowsRules h s t x) (sym old) (sym new)
          (follows-carried g.R.Book g.C.Book c.self.inside.parts c.carry_out.new.self x _ c.in_ok-kind.ensures.0
          c.in_ok-kind.ensures.1 c.self.invariant c.carry_out.ensures.register c.carry_out.ensures.cash
          c.carry_out.ensures.trades);
      refusal = tt;
      table = state-table;
      law = law-of-the-ledger;
    }

pub returns-in_err-kind : goal.returns-in_err-kind
returns-in_err-kind g c =
    let h = rulebook_of g.R.Book.book_kind g.C.Book.book_kind in
    let x = c.args.x.now in
    let old = stands g.R.Book g.C.Book c.self.inside.parts g.met.R.Book.nothing_outside g.met.C.Book.nothing_outside
    c.self.view_is in
    let p = err_from_is_err_and c.from_residual.result c.from_residual.ensures.1 in
    rw (p.1, p.2) (record {
      answer = sym (ap (λ s. fault_answer h s x) old ∙ c.in_err-kind.ensures);
      by_rules = subst₂ (λ s t. FollowsRules h s t x) (sym old) (sym old)
          (follows-refused h _ x _ c.in_err-kind.ensures c.self.invariant);
      refusal = refl;
      table = state-table;
      law = law-of-the-ledger;
    })
