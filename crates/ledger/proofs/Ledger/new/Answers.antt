use Rattle.std.proofs.Common.{refl, ◌∙◌, rules}
use Rattle.ledger.proofs.Views.{reachable-empty, stands}
use Rattle.ledger.proofs.Ledger.new.Goals as goal

pub invariant_of-result : goal.invariant_of-result
invariant_of-result g c = search (rules, reachable-empty)

pub returns : goal.returns
returns g c =
    stands g.R.Book g.C.Book c.clear.new.self g.met.R.Book.nothing_outside g.met.C.Book.nothing_outside refl
    ∙ c.clear.ensures
