-- The law of survival: what outlasts a loss of power, and what a depository's next open answers.
use Rattle.std.specs.Prelude.{◌≡◌, ℕ, ◌+◌, ◌*◌, ◌≤◌, true, false, ◌⊎◌, List, length, Some, None, Ok, Err, Option, Result}
use Rattle.refusals.specs.declared.Refusal.{Refusal}
use Rattle.refusals.specs.declared.Fault.{Fault}
use Rattle.refusals.specs.Numbers.{number_of}
use Rattle.instruction.specs.declared.Instruction.{Instruction}
use Rattle.book.specs.Holdings.{Holdings}
use Rattle.rulebook.specs.Terms.{Side}
use Rattle.rulebook.specs.Rules.{Rulebook, AreAccepted}
use Rattle.rulebook.specs.Law.{Determines}
use Rattle.rulebook.specs.Words.{LastsAreUnique}
use Rattle.device.specs.declared.TheConstants.{MOST_BLOCKS}
use Rattle.device.specs.Medium.{Medium}
use Rattle.device.specs.Calls.{Answer}
use Rattle.device.specs.Traces.{DeviceCall, IsTrace}
use Rattle.journal.specs.Blocks.{header_bytes}
use Rattle.journal.specs.Journal.{Journal}
use Rattle.journal.specs.Format.{no_room, format_answer, Formats, format_calls}
use Rattle.engine.specs.declared.engine.Mode.TheVariants.{Open, Down}
use Rattle.engine.specs.declared.slip.Contents.{Contents}
use Rattle.engine.specs.declared.slip.Verdict.{Verdict}
use Rattle.engine.specs.ClosingSlip.{HasVerdict, presented_number}
use Rattle.engine.specs.View.{View}
use Rattle.engine.specs.Asking.{opening_answer}
use Rattle.engine.specs.StandingList.{standing_list, blocks_for_books}
use Rattle.engine.specs.Opening.{header_for_books}
use Rattle.depository.specs.Orders.{Order, open_order}
use Rattle.depository.specs.declared.calls.Reply.{Reply}
use Rattle.depository.specs.declared.calls.Reply.TheVariants.{ToOpen}
use Rattle.depository.specs.declared.calls.OpenReply.{OpenReply}
use Rattle.depository.specs.declared.stop.Stop.{Stop}
use Rattle.depository.specs.declared.stop.Stop.TheVariants.{ByFault, NoMemory}
use Rattle.depository.specs.Moments.{running, shut, Moment, moment_in}
use Rattle.depository.specs.Calling.{LeadsTo}
use Rattle.depository.specs.DeviceUse.{medium_in}
use Rattle.depository.specs.CallTally.{Tally, tally}
use Rattle.depository.specs.Paths.{Path, last_known_slip}

-- How to read this file. `Survives`, near its end, is what the function `serve` promises:
-- `SurvivalLaw` holds of every run, that is, of any calls after a format, with any answers that
-- they can have. A cut of the power is a close and a restart among these calls. The law compares
-- the depository with its tally (specs/CallTally): a list of instructions, and what is in hand.
-- Both follow from the calls and their answers alone: whoever wrote those down knows what stands.

-- calls that are enough to open any device: an open reads each block at most once
abbrev pub enough_to_open : ℕ
enough_to_open = MOST_BLOCKS

-- the engine is open or down: its opening was answered 0
abbrev pub IsOpenOrDown : View → Type 0
IsOpenOrDown engine = opening_answer engine.mode ≡ Ok tt

-- r is the reply to an open that was answered 0
abbrev pub IsOpenAccepted : Reply → Type 0
IsOpenAccepted r = (o : OpenReply) × (r ≡ ToOpen o) × (o.answer ≡ Ok tt)

-- The instructions xs are the standing list of an engine.
pub record IsStandingList (h : Rulebook) (xs : List Instruction) (engine : View) : Type 0 where
  -- They are what the records of the engine's entries say, in order. (A record that says no
  -- instruction would be listed as one of kind 0. By the next line there is none: the rules refuse
  -- that kind.)
  pub recorded : standing_list engine.medium engine.entry_count ≡ xs
  -- The rules accept them one after another, and so come to the engine's books and trades.
  pub runs : AreAccepted h xs engine.standing
  -- Each trade's state and terms are those that the list says. For each account and item, free and
  -- blocked together are its credits and what it received, less what it gave; and blocked is what
  -- its open trades hold.
  pub determines : Determines xs engine.standing

-- What the last known slip tells is the tally: the number of entries is that of the list, and the
-- instruction in hand is the same. Where there is no known slip, nothing is in hand.
pub record SlipTellsTally (last_slip : Option Contents) (t : Tally) : Type 0 where
  pub no_slip : last_slip ≡ None → t.in_hand ≡ None
  pub slip : (c : Contents) → last_slip ≡ Some c
      → (c.entries ≡ length t.list) × (c.hand ≡ t.in_hand)

-- What an open, answered o, says of the last known slip before it, where it gave this engine.
pub record JudgesLastSlip (last_slip : Option Contents) (o : OpenReply) (engine : View)
    : Type 0 where
  -- Where there is no such slip, none is presented.
  pub no_slip : last_slip ≡ None → o.slip_answer ≡ None
  -- Where there is one, it is answered the verdict that the count found and the last entry found
  -- give it,
  pub judged : (c : Contents) → last_slip ≡ Some c
      → (w : Verdict) × (o.slip_answer ≡ Some (Ok w))
      × HasVerdict (Some c) o.found engine.last_found w
  -- and the number of that verdict is 0 (nothing more stands) or 1 (what was in hand stands).
  pub zero_or_one : (p : Result Verdict Refusal) → o.slip_answer ≡ Some p
      → (presented_number p ≡ 0) ⊎ (presented_number p ≡ 1)

-- Here `h` is the rules, for books of these two kinds; `most_calls` the most calls that a restart
-- of the device gives; and `pairs` the number of pairs of the journal.
module _ (h : Rulebook) (most_calls pairs : ℕ) where
  -- The law at one moment of a run. `t` is the tally of the calls up to then. `last_slip` is what
  -- the last known slip tells that a close among them gave, or None if none did.
  pub record SurvivalLaw (t : Tally) (last_slip : Option Contents) (moment : Moment) : Type 0 where
    -- While an engine runs that is open or down, the tally's list is its standing list,
    pub stands : (engine : View) → moment.phase ≡ running engine → IsOpenOrDown engine
        → IsStandingList h t.list engine
    -- and its device keeps that list, and what is in hand, as a journal of so many pairs.
    pub journal : (engine : View) → moment.phase ≡ running engine → IsOpenOrDown engine
        → Journal (blocks_for_books h pairs) engine.medium t.list t.in_hand
    -- If it is open, nothing is in hand.
    pub open_hand : (engine : View) → moment.phase ≡ running engine
        → engine.mode ≡ Open → t.in_hand ≡ None
    -- If it is down, the instruction that was cut short is in hand.
    pub down_hand : (engine : View) → moment.phase ≡ running engine
        → (x : Instruction) → engine.mode ≡ Down x → t.in_hand ≡ Some x
    -- While no engine runs, the last known slip tells the tally.
    pub slip : (medium : Medium) (books : Side → Holdings) → moment.phase ≡ shut medium books
        → SlipTellsTally last_slip t
    -- If the device then has calls enough left, an open that comes next is answered 0,
    pub next_open : (medium : Medium) (books : Side → Holdings) → moment.phase ≡ shut medium books
        → enough_to_open ≤ medium.calls_left
        → (r : Reply) (after : Moment) → LeadsTo h most_calls moment open_order r after
        → IsOpenAccepted r
    -- and an open that comes next and is answered 0 judges that slip: its verdict is 0 or 1.
    pub next_verdict : (r : Reply) (after : Moment)
        → LeadsTo h most_calls moment open_order r after
        → (o : OpenReply) → r ≡ ToOpen o → o.answer ≡ Ok tt
        → (engine : View) → after.phase ≡ running engine
        → JudgesLastSlip last_slip o engine

  -- What else holds at that moment.
  pub record AlsoHolds (t : Tally) (moment : Moment) : Type 0 where
    -- An open reads a header, and a mark and a record of each pair: with so many calls left it is
    -- answered 0.
    pub next_open : (medium : Medium) (books : Side → Holdings) → moment.phase ≡ shut medium books
        → 1 + 2 * pairs ≤ medium.calls_left
        → (r : Reply) (after : Moment) → LeadsTo h most_calls moment open_order r after
        → IsOpenAccepted r
    -- An open is refused with 13 only: no calls left.
    pub refused : (r : Reply) (after : Moment) → LeadsTo h most_calls moment open_order r after
        → (o : OpenReply) (f : Fault) → r ≡ ToOpen o → o.answer ≡ Err f
        → number_of f.refusal ≡ 13
    -- The device keeps the tally as a journal also while no engine runs, and under an engine whose
    -- opening was refused.
    pub journal : Journal (blocks_for_books h pairs) (medium_in moment.phase) t.list t.in_hand

-- Here `makes` is what the device's kind says of a device call, and `means` what a device means.
module _ {D : Type 0} (makes : D → DeviceCall → D → Type 0) (means : D → Medium)
    (h : Rulebook) where
  -- A format of the device d is answered r, and leaves the device e.
  pub record FormatLeaves (pairs : ℕ) (d : D) (r : Answer) (e : D) : Type 0 where
    pub answer : format_answer pairs (means d) ≡ r
    -- If there is no room for so many pairs, which is refused with 61, nothing was done.
    pub unchanged : no_room pairs (means d).size ≡ true → e ≡ d
    -- Else its blocks were made into an empty journal, as far as the calls left went,
    pub after : no_room pairs (means d).size ≡ false
        → Formats (header_bytes (header_for_books h pairs)) pairs (means d) (means e)
    -- by these calls of the device.
    pub trace : IsTrace makes
        (format_calls (header_bytes (header_for_books h pairs)) pairs
        (means d).size (means d).calls_left)
        d e

  module _ (most_calls pairs : ℕ) (d : D) (books : Side → Holdings) where
    -- A run: a format of d was answered 0, and from there the calls cs, answered rs, led to the
    -- moment b and the device e. The books held these amounts at the format.
    pub record RunFromFormat (cs : List Order) (rs : List Reply) (b : Moment) (e : D)
        : Type 0 where
      -- the device after the format
      pub device : D
      pub format : FormatLeaves pairs d (Ok tt) device
      pub path : Path makes means h most_calls
          (moment_in (shut (means device) books) None) device cs rs b e

    -- The whole promise, where a depository was given the calls cs, and answered rs.
    pub record Survives (cs : List Order) (rs : List Reply) (b : Moment) (e : D) : Type 0 where
      -- The calls and answers are a run.
      pub run : RunFromFormat cs rs b e
      -- The law holds of every run of such a depository, whatever its calls and their answers.
      pub law : (cs' : List Order) (rs' : List Reply) (b' : Moment) (e' : D)
          → (run' : RunFromFormat cs' rs' b' e')
          → SurvivalLaw h most_calls pairs (tally cs' rs') (last_known_slip run'.path) b'
      pub also : (cs' : List Order) (rs' : List Reply) (b' : Moment) (e' : D)
          → RunFromFormat cs' rs' b' e' → AlsoHolds h most_calls pairs (tally cs' rs') b'
      -- "The last instruction of a trade" and "its last Enter", by which `IsStandingList` gives a
      -- trade's state and terms, are well said: each list has one of them or none.
      pub lasts : LastsAreUnique

  -- No call was given, and the depository is as it was made. Either its format was refused, or
  -- there was no memory for the answers, and then nothing was done.
  abbrev pub GivesNoCalls : ℕ → D → (Side → Holdings) → Stop → Moment → D → Type 0
  GivesNoCalls pairs d books (ByFault f) b e =
      FormatLeaves pairs d (Err f) e × (b ≡ moment_in (shut (means e) books) None)
  GivesNoCalls pairs d books (NoMemory x) b e =
      (e ≡ d) × (b ≡ moment_in (shut (means d) books) None)
