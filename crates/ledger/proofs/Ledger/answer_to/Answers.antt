use Rattle.std.proofs.Common.{◌≡◌, sym, ap, ◌∙◌, rules}
use Rattle.rulebook.specs.Rules.{fault_answer}
use Rattle.ledger.specs.View.{rulebook_of, standing_in}
use Rattle.ledger.proofs.Views.{stands}
use Rattle.ledger.proofs.Ledger.answer_to.Goals as goal

pub returns : goal.returns
returns g c =
    let h = rulebook_of g.R.Book.book_kind g.C.Book.book_kind in
    let x = c.args.x.now in
    let e = stands g.R.Book g.C.Book c.self.inside.parts g.met.R.Book.nothing_outside g.met.C.Book.nothing_outside
    c.self.view_is in
    let v : c.map.result ≡ fault_answer h (standing_in g.R.Book g.C.Book c.self.inside.parts) x = search rules in
    v ∙ ap (λ s. fault_answer h s x) (sym e)
