use Rattle.std.proofs.Common.{◌≡◌, ap, ◌∙◌}
use Rattle.instruction.specs.declared.Instruction.{Instruction}
use Rattle.rulebook.specs.Terms.{securities, cash}
use Rattle.ledger.specs.View.{standing_of}
use Rattle.check_trials.specs.ByHand.{trade_7, standing_after}
use Rattle.check_trials.proofs.Settled.{led, answered, answered_after, eight}
use Rattle.check_trials.proofs.settle_a_trade.Goals as goal

pub returns : goal.returns
returns c =
    let issue : Instruction → Instruction = λ x. record {
      kind = x.kind;
      account = 1;
      counterparty = x.counterparty;
      item = 3;
      currency = x.currency;
      trade = x.trade;
      quantity = 100;
      amount = x.amount;
    } in
    let pay-in : Instruction → Instruction = λ x. record {
      kind = x.kind;
      account = 2;
      counterparty = x.counterparty;
      item = x.item;
      currency = 4;
      trade = x.trade;
      quantity = x.quantity;
      amount = 5000;
    } in
    let enter : Instruction → Instruction = λ x. record {
      kind = x.kind;
      account = 1;
      counterparty = 2;
      item = 3;
      currency = 4;
      trade = 7;
      quantity = 100;
      amount = 2000;
    } in
    let one = led c.instruct.ensures.by_rules c.new-ledger.ensures (ap issue c.of_kind.ensures) in
    let two = led c.instruct-2.ensures.by_rules one (ap pay-in c.of_kind-2.ensures) in
    let three = led c.instruct-3.ensures.by_rules two (ap enter c.of_kind-3.ensures) in
    let four = led c.instruct-4.ensures.by_rules three c.on_trade.ensures in
    let five = led c.instruct-5.ensures.by_rules four c.on_trade-2.ensures in
    let all : standing_of c.instruct-6.new.self ≡ standing_after trade_7 = led c.instruct-6.ensures.by_rules five
    c.on_trade-3.ensures in
    let a = rw (answered securities 1 3 _ all c.securities.ensures) at c.unwrap_or_default.ensures in
    let b = rw (answered securities 2 3 _ all c.securities-2.ensures) at c.unwrap_or_default-2.ensures in
    let d = rw (answered cash 1 4 _ all c.money.ensures) at c.unwrap_or_default-3.ensures in
    let e = rw (answered cash 2 4 _ all c.money-2.ensures) at c.unwrap_or_default-4.ensures in
    let f : _ ≡ answered_after (standing_after trade_7) = λ k. record {
      seller_item = a k;
      buyer_item = b k;
      seller_currency = d k;
      buyer_currency = e k;
    } in
    f ∙ eight
