-- The answers to the lines of a script, made of the replies to their calls.
use Rattle.std.specs.Prelude.{◌≡◌, ◌-◌, true, List, [], ◌∷◌, length, drop, Ok, Err, Result, is_some, slice_index_or}
use Rattle.refusals.specs.declared.Refusal.{Refusal}
use Rattle.refusals.specs.declared.Fault.{Fault}
use Rattle.script.specs.declared.Request.{Request}
use Rattle.depository.specs.declared.calls.Reply.{Reply}
use Rattle.depository.specs.declared.calls.Reply.TheVariants.{Done, ToInstruct, ToOpen, ToAsk, Misfit}
use Rattle.depository.specs.declared.calls.OpenReply.{OpenReply}
use Rattle.depository.specs.declared.calls.Fact.TheVariants.{Holding, State, Entries}
use Rattle.examination.specs.declared.answer.Reopening.{Reopening}
use Rattle.examination.specs.declared.answer.LineAnswer.{LineAnswer}
use Rattle.examination.specs.declared.answer.LineAnswer.TheVariants.{Accepted, Amounts, Reopened, Refused, Unasked}
use Rattle.examination.specs.Orders.{orders_of}

-- an answer with no more of its fault than the refusal
abbrev pub without_fault : Result (Unit {0}) Fault → Result (Unit {0}) Refusal
without_fault (Ok u) = Ok u
without_fault (Err f) = Err f.refusal

-- what a key says of an opening
abbrev pub reopening_of : OpenReply → Reopening
reopening_of o = record {
  answer = without_fault o.answer;
  found = o.found;
  slip_answer = o.slip_answer;
}

-- what a key says of a reply
abbrev pub answer_of : Reply → LineAnswer
answer_of Done = Accepted
answer_of (ToInstruct (Ok u)) = Accepted
answer_of (ToInstruct (Err f)) = Refused f.refusal
answer_of (ToOpen o) = Reopened (reopening_of o)
answer_of (ToAsk (Ok (Holding f))) = Amounts f
answer_of (ToAsk (Ok (State s))) = Unasked
answer_of (ToAsk (Ok (Entries n))) = Unasked
answer_of (ToAsk (Err r)) = Refused r
answer_of Misfit = Unasked

-- The answer is what the line asks for, and after a cut a slip was presented: no dash is printed.
abbrev pub HasNoDash : LineAnswer → Type 0
HasNoDash Accepted = Unit {0}
HasNoDash (Amounts f) = Unit {0}
HasNoDash (Reopened o) = is_some o.slip_answer ≡ true
HasNoDash (Refused r) = Unit {0}
HasNoDash Unasked = ⊥

-- The answer to a line, from the replies to its calls and to those after them: the last of its own
-- gives it. A line that could not be read is refused.
abbrev pub line_answer : Result Request Refusal → List Reply → LineAnswer
line_answer (Ok q) rs = answer_of (slice_index_or rs (length (orders_of (Ok q)) - 1) Misfit)
line_answer (Err r) rs = Refused r

-- one answer for each line
abbrev pub answers_for : List (Result Request Refusal) → List Reply → List LineAnswer
answers_for [] rs = []
answers_for (q ∷ qs) rs = line_answer q rs ∷ answers_for qs (drop (length (orders_of q)) rs)
