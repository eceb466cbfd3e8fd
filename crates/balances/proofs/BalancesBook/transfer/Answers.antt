use Rattle.std.proofs.Common.{rules}
use Rattle.refusals.specs.declared.Refusal.TheVariants.{OverBlocked}
use Rattle.balances.proofs.Deeds.{move-done, move-room}
use Rattle.balances.proofs.BalancesBook.transfer.Goals as goal

pub overflow_add-self : goal.overflow_add-self
overflow_add-self c =
    let room = move-room c.args.self.now c.args.from c.args.item c.args.quantity c.in_ok-holding.holding
    c.in_ok-holding.ensures OverBlocked c.args.to c.if-to-ge-ACCOUNTS.false c.in_ok-covers.ensures in
    search rules

pub invariant_of-self : goal.invariant_of-self
invariant_of-self c =
    let d = move-done c.args.self.now c.args.from c.args.item c.args.quantity c.in_ok-holding.holding
    c.in_ok-holding.ensures OverBlocked c.args.to c.if-to-ge-ACCOUNTS.false c.in_ok-covers.ensures in
    search rules

pub returns : goal.returns
returns c =
    let d = move-done c.args.self.now c.args.from c.args.item c.args.quantity c.in_ok-holding.holding
    c.in_ok-holding.ensures OverBlocked c.args.to c.if-to-ge-ACCOUNTS.false c.in_ok-covers.ensures in
    search rules
