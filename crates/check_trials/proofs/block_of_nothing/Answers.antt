use Rattle.std.proofs.Common.{ap, ◌∙◌, lit<}
use Rattle.book.specs.Holdings.{blocking}
use Rattle.book.specs.Rulings.{ruling}
use Rattle.balances.specs.Rows.{balances_kind}
use Rattle.refusals.specs.Numbers.{answer_number}
use Rattle.check_trials.proofs.Rows.{block-of-nothing}
use Rattle.check_trials.proofs.block_of_nothing.Goals as goal

pub returns : goal.returns
returns c = c.answer_number.ensures ∙ ap answer_number (c.block.ensures.answer ∙ ap
    (λ b. ruling balances_kind b (blocking 0 0 1)) c.new-book.ensures.empty) ∙ block-of-nothing 0 0 (lit< tt) (lit< tt)
