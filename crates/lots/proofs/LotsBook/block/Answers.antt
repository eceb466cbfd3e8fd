use Rattle.std.proofs.Common.{rules}
use Rattle.refusals.specs.declared.Refusal.TheVariants.{OverFree}
use Rattle.book.specs.Rulings.{holding_of}
use Rattle.book.proofs.Accepted.{answer-part}
use Rattle.lots.specs.Owners.{lots_kind}
use Rattle.lots.specs.Meaning.{meaning}
use Rattle.lots.proofs.Deeds.{block-done}
use Rattle.lots.proofs.LotsBook.block.Goals as goal

pub returns : goal.returns
returns c =
    let e = answer-part (λ h. h.free) lots_kind (holding_of
    (meaning c.args.self.now)) c.args.account c.args.item c.in_ok-holding.holding c.in_ok-holding.ensures in
    let d = block-done c.args.self.now c.args.account c.args.item c.args.quantity c.in_ok-holding.holding.free
    OverFree c.in_ok-covers.ensures e in
    search rules
