use Rattle.std.proofs.Common.{ℕ, sym, ap, ◌∙◌, arith}
use Rattle.simulated.specs.Rows.{revived_row}
use Rattle.simulated.proofs.RowLaws.{revived-fill, revived-lost}
use Rattle.simulated.proofs.rows.revive.Goals as goal

pub returns-in-3-2 : goal.returns-in-3-2
returns-in-3-2 c =
    let r = c.args.row.now in
    c.set_flag-in-3-2.ensures ∙ sym (ap (λ (v : ℕ). revived_row v r) c.in-3.is ∙ revived-lost r c.if-flag-eq0.false)

pub returns-in_default : goal.returns-in_default
returns-in_default c =
    let v = c.args.byte in
    c.keep-in_default.ensures
    ∙ sym (revived-fill v c.args.row.now (λ e. omega arith) (λ e. omega arith) (λ e. omega arith) (λ e. omega arith))
