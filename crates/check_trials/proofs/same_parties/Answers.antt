use Rattle.std.proofs.Common.{ap, ◌∙◌}
use Rattle.refusals.specs.Numbers.{fault_number}
use Rattle.instruction.specs.declared.Instruction.{Instruction}
use Rattle.balances.specs.Rows.{balances_kind}
use Rattle.rulebook.specs.Rules.{empty, fault_answer}
use Rattle.ledger.specs.View.{rulebook_of}
use Rattle.check_trials.proofs.same_parties.Goals as goal

pub returns : goal.returns
returns c =
    let h = rulebook_of balances_kind balances_kind in
    let entering : Instruction → Instruction = λ x. record {
      kind = x.kind;
      account = 70;
      counterparty = 70;
      item = x.item;
      currency = x.currency;
      trade = 7;
      quantity = 100;
      amount = 5000;
    } in
    c.fault_number.ensures ∙ ap fault_number c.answer_to.ensures
    ∙ ap (λ s. fault_number (fault_answer h s (entering c.of_kind.result))) c.new-ledger.ensures
    ∙ ap (λ x. fault_number (fault_answer h empty (entering x))) c.of_kind.ensures
