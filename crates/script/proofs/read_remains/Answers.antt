use Rattle.std.proofs.Common.{◌≡◌, ◌<◌, length, Some, None, rules}
use Rattle.script.specs.Numerals.{largest_in}
use Rattle.script.specs.Requests.{field_of, after_field}
use Rattle.script.proofs.Cuts.{going-more, going-end, going-no-field, going-full}
use Rattle.script.proofs.read_remains.Goals as goal

pub returns-in_err-field : goal.returns-in_err-field
returns-in_err-field c =
    let left : 0 < length c.loop-remains.tokens.rest.now = search rules in
    let none : field_of (largest_in 1) c.loop-remains.tokens.rest.now ≡ None = search rules in
    let e = going-no-field _ _ _ c.loop-remains.invariant left none in
    search (rules, e)

pub loop-remains-preserved : goal.loop-remains-preserved
loop-remains-preserved c =
    let left : 0 < length c.loop-remains.tokens.rest.now = search rules in
    let some : field_of (largest_in 1) c.loop-remains.tokens.rest.now ≡ Some c.in_ok-field.field-0 = search rules in
    let e = going-more _ _ _ c.in_ok-field.field-0 c.loop-remains.invariant left c.in_ok-push.ensures.1 some in
    let further : c.field.new.self.rest.now ≡ after_field c.loop-remains.tokens.rest.now = search rules in
    rw (c.in_ok-push.ensures.0, further) e

pub returns-in_err-push : goal.returns-in_err-push
returns-in_err-push c =
    let left : 0 < length c.loop-remains.tokens.rest.now = search rules in
    let e = going-full _ _ _ c.loop-remains.invariant left in
    search (rules, e)

pub returns : goal.returns
returns c = going-end _ _ _ c.loop-remains.invariant (search rules)
