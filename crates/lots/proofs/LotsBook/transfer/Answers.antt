use Rattle.std.proofs.Common.{rules}
use Rattle.refusals.specs.declared.Refusal.TheVariants.{OverBlocked}
use Rattle.book.specs.Rulings.{holding_of}
use Rattle.book.proofs.Accepted.{answer-part}
use Rattle.lots.specs.Owners.{lots_kind}
use Rattle.lots.specs.Meaning.{meaning}
use Rattle.lots.proofs.Deeds.{move-done}
use Rattle.lots.proofs.LotsBook.transfer.Goals as goal

pub returns : goal.returns
returns c =
    let e = answer-part (λ h. h.blocked) lots_kind
    (holding_of (meaning c.args.self.now)) c.args.from c.args.item c.in_ok-holding.holding
    c.in_ok-holding.ensures in
    let d = move-done c.args.self.now c.args.from c.args.item c.args.quantity c.in_ok-holding.holding.blocked
    OverBlocked c.in_ok-covers.ensures e c.args.to c.if-to-ge-ACCOUNTS.false in
    search rules
