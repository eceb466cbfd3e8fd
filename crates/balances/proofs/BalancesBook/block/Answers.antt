use Rattle.std.proofs.Common.{rules}
use Rattle.refusals.specs.declared.Refusal.TheVariants.{OverFree}
use Rattle.book.proofs.Accepted.{covers-ok}
use Rattle.balances.proofs.Deeds.{block-done, holding-room}
use Rattle.balances.proofs.BalancesBook.block.Goals as goal

pub overflow_add-self : goal.overflow_add-self
overflow_add-self c =
    let holding = c.in_ok-holding.holding in
    let room = holding-room c.args.self.now c.args.account c.args.item c.args.quantity holding
    c.in_ok-holding.ensures in
    let most = covers-ok holding.free c.args.quantity OverFree c.in_ok-covers.ensures in
    search rules

pub invariant_of-self : goal.invariant_of-self
invariant_of-self c =
    let d = block-done c.args.self.now c.args.account c.args.item c.args.quantity c.in_ok-holding.holding
    c.in_ok-holding.ensures OverFree c.in_ok-covers.ensures in
    search rules

pub returns : goal.returns
returns c =
    let d = block-done c.args.self.now c.args.account c.args.item c.args.quantity c.in_ok-holding.holding
    c.in_ok-holding.ensures OverFree c.in_ok-covers.ensures in
    search rules
