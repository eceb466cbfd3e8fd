use Rattle.std.proofs.Common.{◌≡◌, sym, ap, ◌∙◌, rules}
use Rattle.rulebook.specs.Terms.{securities}
use Rattle.ledger.specs.View.{rulebook_of, standing_in, holding_question}
use Rattle.ledger.proofs.Views.{stands}
use Rattle.ledger.proofs.Ledger.securities.Goals as goal

pub returns : goal.returns
returns g c =
    let h = rulebook_of g.R.Book.book_kind g.C.Book.book_kind in
    let e = stands g.R.Book g.C.Book c.self.inside.parts g.met.R.Book.nothing_outside g.met.C.Book.nothing_outside
    c.self.view_is in
    let a : c.holding.result ≡ holding_question h
    (standing_in g.R.Book g.C.Book c.self.inside.parts) securities c.args.account c.args.item = search rules in
    a ∙ ap (λ s. holding_question h s securities c.args.account c.args.item) (sym e)
