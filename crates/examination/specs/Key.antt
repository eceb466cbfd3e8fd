-- The key of a script.
use Rattle.std.specs.Prelude.{◌≡◌, ℕ, ◌+◌, ◌*◌, ◌<◌, ◌≤◌, ◌⊎◌, List, length, drop, Err}
use Rattle.std.specs.List.{AllByRecursion}
use Rattle.refusals.specs.Faults.{fault}
use Rattle.book.specs.Holdings.{Holdings}
use Rattle.rulebook.specs.Terms.{Side}
use Rattle.rulebook.specs.Rules.{Rulebook}
use Rattle.script.specs.Feeds.{lines_of}
use Rattle.device.specs.Medium.{Medium}
use Rattle.device.specs.Traces.{DeviceCall}
use Rattle.journal.specs.Format.{format_answer}
use Rattle.depository.specs.declared.calls.Reply.{Reply}
use Rattle.depository.specs.Orders.{Order}
use Rattle.depository.specs.Moments.{Moment}
use Rattle.depository.specs.Survival.{Survives}
use Rattle.examination.specs.declared.answer.LineAnswer.{LineAnswer}
use Rattle.depository.specs.declared.stop.Stop.{Stop}
use Rattle.depository.specs.declared.stop.Stop.TheVariants.{ByFault, NoMemory}
use Rattle.examination.specs.Orders.{requests_in, orders_in}
use Rattle.examination.specs.Answers.{HasNoDash, answers_for}

-- the most bytes that a script may have
abbrev pub most_bytes : ℕ
most_bytes = 65536

module _ {D : Type 0} (makes : D → DeviceCall → D → Type 0) (means : D → Medium)
    (h : Rulebook) (most pairs : ℕ) (d : D) (books : Side → Holdings) where
  -- These are the replies to calls that were given to a depository from a format on: the whole law
  -- of survival holds of them.
  pub record AreReplies (calls : List Order) (replies : List Reply) : Type 0 where
    pub end : Moment
    pub device : D
    pub survives : Survives makes means h most pairs d books calls replies end device

  -- The answers are the key of a script, over a device d with these books: the law of survival
  -- holds of the calls of its lines, and the replies to a line's calls give the line's answer.
  pub record IsKeyOf (script : List ℕ) (answers : List LineAnswer) : Type 0 where
    pub short : length script ≤ most_bytes
    pub replies : List Reply
    pub are_replies : AreReplies (orders_in script) replies
    -- the first reply is to the open before the lines
    pub answers_are : answers ≡ answers_for (requests_in script) (drop 1 replies)
    pub count : length answers ≡ length (lines_of script)
    -- with calls enough for the format and the first opening
    pub no_dash : 6 + 3 * pairs ≤ (means d).calls_left → AllByRecursion HasNoDash answers

-- No call was given: the format of the device answers this fault, or memory ran out.
abbrev pub IsUnserved : ℕ → Medium → Stop → Type 0
IsUnserved pairs m (ByFault f) = format_answer pairs m ≡ Err f
IsUnserved pairs m (NoMemory e) = Unit {0}

abbrev pub too_long_stop : Stop
too_long_stop = ByFault (fault 73)

-- Why a script has no key: it is too long, and nothing was done; or the format is refused, or
-- memory ran out.
abbrev pub IsStop : ℕ → Medium → List ℕ → Stop → Type 0
IsStop pairs m script stop =
    ((most_bytes < length script) × (stop ≡ too_long_stop))
    ⊎ ((length script ≤ most_bytes) × IsUnserved pairs m stop)
