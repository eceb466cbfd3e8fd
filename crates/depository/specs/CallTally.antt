-- The tally of a depository: a list, and what is in hand, made of calls and their answers alone.
use Rattle.std.specs.Prelude.{List, [], ◌∷◌, ◌++◌, Some, None, Ok, Err, Option, Result, ◌==◌, if◌then◌else◌}
use Rattle.refusals.specs.declared.Refusal.{Refusal}
use Rattle.refusals.specs.Numbers.{number_of}
use Rattle.instruction.specs.declared.Instruction.{Instruction}
use Rattle.device.specs.Calls.{Answer}
use Rattle.engine.specs.declared.slip.Verdict.{Verdict}
use Rattle.engine.specs.ClosingSlip.{presented_number}
use Rattle.depository.specs.Orders.{Order, instruct_order, open_order}
use Rattle.depository.specs.declared.calls.Reply.{Reply}
use Rattle.depository.specs.declared.calls.Reply.TheVariants.{ToInstruct, ToOpen}

pub record Tally : Type 0 where
  pub list : List Instruction
  -- the instruction that a cut of the power left half done, if any
  pub in_hand : Option Instruction

-- at the format
abbrev pub empty_tally : Tally
empty_tally = record { list = []; in_hand = None }

-- An instruction answered 0 joins the list at its end. Answered 13, it is in hand.
abbrev pub after_instruct : Tally → Instruction → Answer → Tally
after_instruct t x (Ok u) = record { list = t.list ++ (x ∷ []); in_hand = t.in_hand }
after_instruct t x (Err f) =
    (if number_of f.refusal == 13 then record { list = t.list; in_hand = Some x } else t)

-- a list, and at its end what is in hand
abbrev pub with_in_hand : List Instruction → Option Instruction → List Instruction
with_in_hand xs None = xs
with_in_hand xs (Some x) = xs ++ (x ∷ [])

-- After an open answered 0 nothing is in hand. What was in hand joins the list if the verdict on
-- the slip is 1.
abbrev pub after_open : Tally → Answer → Option (Result Verdict Refusal) → Tally
after_open t (Err f) slip_answer = t
after_open t (Ok u) None = record { list = t.list; in_hand = None }
after_open t (Ok u) (Some slip_answer) =
    (if presented_number slip_answer == 1
    then record { list = with_in_hand t.list t.in_hand; in_hand = None }
    else record { list = t.list; in_hand = None })

-- All other calls change nothing.
abbrev pub tally_after : Tally → Order → Reply → Tally
tally_after t (instruct_order x) (ToInstruct answer) = after_instruct t x answer
tally_after t open_order (ToOpen o) = after_open t o.answer o.slip_answer
tally_after t c r = t

-- the tally after the calls cs, answered rs, in order
unfoldable pub tally_from : Tally → List Order → List Reply → Tally
tally_from t (c ∷ cs) (r ∷ rs) = tally_from (tally_after t c r) cs rs
tally_from t cs rs = t

-- the tally of calls that were given from a format on
abbrev pub tally : List Order → List Reply → Tally
tally cs rs = tally_from empty_tally cs rs
