-- What an engine answers of itself, and what its closing gives.
use Rattle.std.specs.Prelude.{ℕ, Some, None, Ok, Err, Option, Result}
use Rattle.refusals.specs.declared.Refusal.{Refusal}
use Rattle.refusals.specs.Numbers.{numbered}
use Rattle.refusals.specs.declared.Fault.{Fault}
use Rattle.engine.specs.declared.engine.Mode.{Mode}
use Rattle.engine.specs.declared.engine.Mode.TheVariants.{Open, Down, Refused}
use Rattle.engine.specs.declared.slip.Slip.{Slip}
use Rattle.engine.specs.declared.slip.Contents.{Contents}
use Rattle.engine.specs.declared.slip.Verdict.{Verdict}
use Rattle.engine.specs.ClosingSlip.{contents, slip_verdict, unknown_contents}
use Rattle.engine.specs.View.{View}

-- the answer of its opening
abbrev pub opening_answer : Mode → Result (Unit {0}) Fault
opening_answer Open = Ok tt
opening_answer (Down x) = Ok tt
opening_answer (Refused f) = Err f

-- an engine that is open or down answers a question; one whose opening was refused answers 41
abbrev pub if_answering : {X : Type 0} → Mode → Result X Refusal → Result X Refusal
if_answering Open r = r
if_answering (Down x) r = r
if_answering (Refused f) r = Err (numbered 41)

-- What the slip of a closing says, where n entries stand: their number, and what is in hand if
-- power went; nothing where the opening was refused.
abbrev pub contents_by_mode : Mode → ℕ → Option Contents
contents_by_mode Open n = Some (record { entries = n; hand = None })
contents_by_mode (Down x) n = Some (record { entries = n; hand = Some x })
contents_by_mode (Refused f) n = unknown_contents

abbrev pub closing_contents : View → Option Contents
closing_contents v = contents_by_mode v.mode v.entry_count

-- the verdict on a slip; where the opening was refused, 41 and the slip itself
abbrev pub present_answer_by_mode : Mode → View → Slip → Result Verdict (Refusal × Slip)
present_answer_by_mode Open v s = Ok (slip_verdict (contents s) v.found v.last_found)
present_answer_by_mode (Down x) v s = Ok (slip_verdict (contents s) v.found v.last_found)
present_answer_by_mode (Refused f) v s = Err (numbered 41, s)

abbrev pub present_answer : View → Slip → Result Verdict (Refusal × Slip)
present_answer v s = present_answer_by_mode v.mode v s
