use Rattle.std.proofs.Common.{string_bytes, vec_items}
use Rattle.std.proofs.lemmas.Result.{IfOk-weaker}
use Rattle.ledger.specs.View.{both_sides}
use Rattle.balances.specs.Meaning.{meaning as balances}
use Rattle.device.specs.declared.TheConstants.{MOST_CALLS}
use Rattle.simulated.specs.Meaning.{meaning, Makes}
use Rattle.examination.specs.Key.{IsKeyOf}
use Rattle.examination.specs.Program.{pair_count, two_balances}
use Rattle.examination.proofs.Prints.{other-error, prints-key, prints-refusal}
use Rattle.examination.proofs.program.examine.Goals as goal

pub returns-in-Ok-clause-text : goal.returns-in-Ok-clause-text
returns-in-Ok-clause-text c =
    let device = c.in_ok-device.device in
    let books = both_sides (balances c.in_ok-register.register.value) (balances c.in_ok-cash.cash.value) in
    let keyed : IsKeyOf Makes meaning two_balances MOST_CALLS pair_count device books c.args.script.now
    (vec_items c.in-Ok.answers) = assumption c.in-Ok.ensures in
    other-error _ c.key_text.result c.map_err.result _
    c.map_err.ensures.cases
    (IfOk-weaker c.key_text.result _ _
    (λ text e. prints-key c.in_ok-device.device _ _ c.args.script.now (vec_items c.in-Ok.answers) _
    (string_bytes text) c.in_ok-device.ensures c.in_ok-register.ensures c.in_ok-cash.ensures keyed
    c.as_slice.ensures.value e)
    c.key_text.ensures)

pub returns-in-Err-ByFault-clause-text : goal.returns-in-Err-ByFault-clause-text
returns-in-Err-ByFault-clause-text c =
    other-error _ c.refusal_text.result c.map_err-in-Err-ByFault.result _
    c.map_err-in-Err-ByFault.ensures.cases
    (IfOk-weaker c.refusal_text.result _ _
    (λ text e. prints-refusal c.in_ok-device.device c.args.script.now c.in-Err-ByFault.fault
    c.in-Err-ByFault.field-0
    (string_bytes text) c.in_ok-device.ensures c.in-Err-ByFault.field-0-is c.in-Err-ByFault.ensures e)
    c.refusal_text.ensures)
