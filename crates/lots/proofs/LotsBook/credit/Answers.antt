use Rattle.std.proofs.Common.{◌<◌, length, ◌∙◌, arith, rules}
use Rattle.std.proofs.lemmas.List.{length-set}
use Rattle.std.proofs.lemmas.Bool.{lt-ltb}
use Rattle.book.proofs.Accepted.{credit-fits}
use Rattle.lots.specs.Owners.{lots_kind}
use Rattle.lots.specs.Meaning.{meaning}
use Rattle.lots.proofs.Deeds.{owners-set, credit-done}
use Rattle.lots.proofs.LotsBook.credit.Goals as goal

-- whatever the lot becomes, its owner is the account
pub invariant_of-self : goal.invariant_of-self
invariant_of-self c =
    let book = c.args.self.now in
    let fits = credit-fits lots_kind
    (meaning book) c.args.account c.args.item c.args.quantity c.in_ok-credit_ruling.ensures in
    let there : c.args.item < length book.lots = omega (arith, book.whole) in
    record {
      whole = length-set book.lots c.args.item _ ∙ book.whole;
      owners = owners-set book.lots c.args.item _ there (lt-ltb c.args.account 64 fits.0) book.owners;
    }

pub returns : goal.returns
returns c =
    let d = credit-done c.args.self.now c.args.account c.args.item c.args.quantity c.in_ok-credit_ruling.ensures in
    search rules
