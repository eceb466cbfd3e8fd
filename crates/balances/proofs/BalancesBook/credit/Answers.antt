use Rattle.std.proofs.Common.{rules}
use Rattle.balances.proofs.Deeds.{credit-done, credit-room}
use Rattle.balances.proofs.BalancesBook.credit.Goals as goal

pub overflow_add-self : goal.overflow_add-self
overflow_add-self c =
    let room = credit-room c.args.self.now c.args.account c.args.item c.args.quantity c.in_ok-credit_ruling.ensures in
    search rules

pub invariant_of-self : goal.invariant_of-self
invariant_of-self c =
    let d = credit-done c.args.self.now c.args.account c.args.item c.args.quantity c.in_ok-credit_ruling.ensures in
    search rules

pub returns : goal.returns
returns c =
    let d = credit-done c.args.self.now c.args.account c.args.item c.args.quantity c.in_ok-credit_ruling.ensures in
    search rules
