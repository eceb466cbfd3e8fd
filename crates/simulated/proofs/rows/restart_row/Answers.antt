use Rattle.std.proofs.Common.{◌≡◌, ℕ, true, get_or, sym, ap, ◌∙◌, rules}
use Rattle.std.proofs.lemmas.Bool.{cond-true}
use Rattle.std.specs.Slice.Iter.{iter_rest}
use Rattle.simulated.specs.Rows.{is_loose, revived_row}
use Rattle.simulated.proofs.rows.restart_row.Goals as goal

pub returns-then-row_is_loose-clause-row : goal.returns-then-row_is_loose-clause-row
returns-then-row_is_loose-clause-row c =
    let r = c.args.row.now in
    let same : c.unwrap-row.result.now ≡ r = search rules in
    let loose : is_loose r ≡ true = ap is_loose (sym same) ∙ sym c.row_is_loose.ensures ∙ c.if-row_is_loose.true in
    c.revive.ensures ∙ ap (λ (v : ℕ). revived_row v c.unwrap-row.result.now) c.take_byte-byte.ensures.byte
    ∙ ap (revived_row (get_or (iter_rest c.args.remains.now) 0 0)) same ∙ sym (cond-true (is_loose r) _ r loose)
