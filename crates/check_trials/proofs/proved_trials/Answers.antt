use Rattle.std.proofs.Common.{lit<, rules}
use Rattle.check_trials.proofs.Rows.{credit-of-a-lot, credit-of-two, proved-trials}
use Rattle.check_trials.proofs.proved_trials.Goals as goal

pub returns : goal.returns
returns c =
    let one = credit-of-a-lot 0 0 (lit< tt) (lit< tt) in
    let two = credit-of-two 0 0 (lit< tt) (lit< tt) in
    record { outcomes = search rules; rows = proved-trials }
