-- What each call of a depository answers, and the moment that it leads to.
use Rattle.std.specs.Prelude.{◌≡◌, ℕ, Some, None, Ok, Err, Option, Result}
use Rattle.refusals.specs.declared.Refusal.{Refusal}
use Rattle.refusals.specs.Numbers.{numbered}
use Rattle.instruction.specs.declared.Instruction.{Instruction}
use Rattle.book.specs.Holdings.{Holdings}
use Rattle.rulebook.specs.Terms.{Side, securities, cash}
use Rattle.rulebook.specs.Rules.{Rulebook}
use Rattle.ledger.specs.Rows.{state_question}
use Rattle.ledger.specs.View.{holding_question}
use Rattle.device.specs.Medium.{Medium}
use Rattle.device.specs.Power.{Restart}
use Rattle.device.specs.Calls.{Answer}
use Rattle.engine.specs.declared.engine.Mode.{Mode}
use Rattle.engine.specs.declared.engine.Mode.TheVariants.{Open, Down, Refused}
use Rattle.engine.specs.declared.slip.Contents.{Contents}
use Rattle.engine.specs.declared.slip.Verdict.{Verdict}
use Rattle.engine.specs.ClosingSlip.{slip_verdict}
use Rattle.engine.specs.View.{View}
use Rattle.engine.specs.Opening.{opening_view}
use Rattle.engine.specs.Instructing.{TakesInstruction}
use Rattle.engine.specs.Asking.{opening_answer, if_answering, closing_contents}
use Rattle.depository.specs.Orders.{Order, instruct_order, close_order, restart_order, open_order, ask_order}
use Rattle.depository.specs.declared.calls.Question.{Question}
use Rattle.depository.specs.declared.calls.Question.TheVariants.{Securities, Money, TradeState, Entries}
use Rattle.depository.specs.declared.calls.Fact.{Fact}
use Rattle.depository.specs.declared.calls.Fact.TheVariants.{Holding as HoldingFact, State as StateFact, Entries as EntriesFact}
use Rattle.depository.specs.declared.calls.Reply.{Reply}
use Rattle.depository.specs.declared.calls.Reply.TheVariants.{Done, ToInstruct, ToOpen, ToAsk, Misfit}
use Rattle.depository.specs.OwedSlip.{newest_known}
use Rattle.depository.specs.Moments.{Phase, running, shut, Moment, moment_in}

-- the reply r and the moment b after it are these
pub record Yields (r r₀ : Reply) (b b₀ : Moment) : Type 0 where
  pub reply : r ≡ r₀
  pub moment : b ≡ b₀

-- The engine v answers an instruction, and is left by it, as its own contract says.
pub record Instructs (h : Rulebook) (x : Instruction) (v : View) (owed : Option Contents)
    (r : Reply) (b : Moment) : Type 0 where
  pub answer : Answer
  pub after : View
  pub engine : TakesInstruction h x v after answer
  pub yields : Yields r (ToInstruct answer) b (moment_in (running after) owed)

-- A restart leaves of the device what the device's own contract says. The books stay as they are.
pub record Restarts (calls_left most_calls : ℕ) (m : Medium) (books : Side → Holdings)
    (owed : Option Contents) (r : Reply) (b : Moment) : Type 0 where
  pub after : Medium
  pub device : Restart m after calls_left most_calls
  pub yields : Yields r Done b (moment_in (shut after books) owed)

-- What the slip that is owed, if any, is answered when it is presented to an engine in this mode,
-- whose opening found so many entries and this last one: a verdict, or 41.
abbrev pub slip_answer : Mode → ℕ → Option Instruction → Option Contents
    → Option (Result Verdict Refusal)
slip_answer mode found last_found None = None
slip_answer Open found last_found (Some c) = Some (Ok (slip_verdict (Some c) found last_found))
slip_answer (Down x) found last_found (Some c) =
    Some (Ok (slip_verdict (Some c) found last_found))
slip_answer (Refused f) found last_found (Some c) = Some (Err (numbered 41))

-- what is owed after that: an engine whose opening was refused gives the slip back
abbrev pub owed_after_open : Mode → Option Contents → Option Contents
owed_after_open Open owed = None
owed_after_open (Down x) owed = None
owed_after_open (Refused f) owed = owed

-- what an open answers that gave the engine v
abbrev pub reply_to_open : View → Option Contents → Reply
reply_to_open v owed = ToOpen (record {
  answer = opening_answer v.mode;
  found = v.found;
  slip_answer = slip_answer v.mode v.found v.last_found owed;
})

abbrev pub moment_after_open : View → Option Contents → Moment
moment_after_open v owed = moment_in (running v) (owed_after_open v.mode owed)

-- an answer as a fact
abbrev pub as_fact : {X : Type 0} → (X → Fact) → Result X Refusal → Result Fact Refusal
as_fact fact (Ok x) = Ok (fact x)
as_fact fact (Err r) = Err r

-- what the engine v answers to a question
abbrev pub answer_to_question : Rulebook → View → Question → Result Fact Refusal
answer_to_question h v (Securities account item) =
    as_fact HoldingFact
    (if_answering v.mode (holding_question h v.standing securities account item))
answer_to_question h v (Money account currency) =
    as_fact HoldingFact
    (if_answering v.mode (holding_question h v.standing cash account currency))
answer_to_question h v (TradeState trade) =
    as_fact StateFact (if_answering v.mode (state_question v.standing.state trade))
answer_to_question h v Entries = as_fact EntriesFact (if_answering v.mode (Ok v.entry_count))

module _ (h : Rulebook) (most_calls : ℕ) where
  -- the relation below, by the phase and by what is owed
  abbrev pub LeadsInPhase : Phase → Option Contents → Order → Reply → Moment → Type 0
  LeadsInPhase (running v) owed (instruct_order x) r b = Instructs h x v owed r b
  LeadsInPhase (running v) owed close_order r b =
      Yields r Done b
      (moment_in (shut v.medium v.standing.book) (newest_known (closing_contents v) owed))
  LeadsInPhase (running v) owed (ask_order question) r b =
      Yields r (ToAsk (answer_to_question h v question)) b (moment_in (running v) owed)
  LeadsInPhase (shut m books) owed (restart_order calls_left remains) r b =
      Restarts calls_left most_calls m books owed r b
  LeadsInPhase (shut m books) owed open_order r b =
      Yields r (reply_to_open (opening_view h m) owed)
      b (moment_after_open (opening_view h m) owed)
  -- any other call is a misfit: it is answered so, and changes nothing
  LeadsInPhase phase owed c r b = Yields r Misfit b (moment_in phase owed)

  -- The call c, answered r, leads from the moment a to the moment b.
  abbrev pub LeadsTo : Moment → Order → Reply → Moment → Type 0
  LeadsTo a c r b = LeadsInPhase a.phase a.owed c r b
