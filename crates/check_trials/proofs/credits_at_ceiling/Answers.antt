use Rattle.std.proofs.Common.{ap, ◌∙◌, lit<}
use Rattle.book.specs.Holdings.{Holdings, crediting}
use Rattle.book.specs.Rulings.{ruling, outcome}
use Rattle.balances.specs.Rows.{balances_kind}
use Rattle.refusals.specs.Numbers.{answer_number}
use Rattle.check_trials.proofs.Rows.{credit-to-ceiling, credit-past-ceiling, filled-once}
use Rattle.check_trials.proofs.credits_at_ceiling.Goals as goal

pub returns : goal.returns
returns c =
    let all : Holdings → _ = λ b. ruling balances_kind b (crediting 0 0 1000000000000) in
    let w = c.answer_number-whole.ensures ∙ ap answer_number (c.credit.ensures.answer ∙ ap all c.new-book.ensures.empty)
    ∙ credit-to-ceiling 0 0 (lit< tt) (lit< tt) in
    let b = c.credit.ensures.after ∙ ap (λ b. outcome balances_kind b
    (crediting 0 0 1000000000000)) c.new-book.ensures.empty ∙ filled-once in
    let m = c.answer_number-more.ensures ∙ ap answer_number (c.credit-2.ensures.answer ∙ ap
    (λ b. ruling balances_kind b (crediting 0 0 1)) b)
    ∙ credit-past-ceiling 0 0 0 (lit< tt) (lit< tt) (lit< tt) in
    λ k. (w k, m k)
