use Rattle.std.proofs.Common.{rules}
use Rattle.script.specs.Requests.{field_of, after_field}
use Rattle.script.proofs.Num.{numeral-below}
use Rattle.script.proofs.Tokens.field.Goals as goal

pub returns-in_default : goal.returns-in_default
unfolding field_of after_field
returns-in_default g c = search rules

pub returns-in_default-next_token : goal.returns-in_default-next_token
unfolding field_of after_field
returns-in_default-next_token g c = search rules

pub returns-in_err-number : goal.returns-in_err-number
unfolding field_of after_field
returns-in_err-number g c = search (rules, numeral-below g.T.Width.largest c.in-Digits.digits.now g.T.Width.narrow)

pub returns : goal.returns
unfolding field_of after_field
returns g c =
    let held = g.met.T.Width.holds c.in_ok-number.field-0 c.try_from.result c.try_from.ensures in
    search (rules, numeral-below g.T.Width.largest c.in-Digits.digits.now g.T.Width.narrow)
