use Rattle.std.proofs.Common.{ap, rules}
use Rattle.rulebook.specs.Terms.{securities, cash}
use Rattle.rulebook.specs.Rules.{Standing}
use Rattle.ledger.proofs.Views.{stands}
use Rattle.ledger.proofs.Ledger.into_books.Goals as goal

pub returns : goal.returns
returns g c =
    let e = stands g.R.Book g.C.Book c.self.inside.parts g.met.R.Book.nothing_outside g.met.C.Book.nothing_outside
    c.self.view_is in
    let register = ap (λ (s : Standing). s.book securities) e in
    let cash = ap (λ (s : Standing). s.book cash) e in
    record { register = search rules; cash = search rules }
