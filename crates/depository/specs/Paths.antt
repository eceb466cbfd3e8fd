-- A path: calls with their answers, one after another.
use Rattle.std.specs.Prelude.{◌≡◌, ℕ, List, [], ◌∷◌, None, Option}
use Rattle.std.specs.Option.{option_or}
use Rattle.instruction.specs.declared.Instruction.{Instruction}
use Rattle.instruction.specs.Layout.{IsEncodable}
use Rattle.rulebook.specs.Rules.{Rulebook}
use Rattle.device.specs.Medium.{Medium}
use Rattle.device.specs.Traces.{DeviceCall}
use Rattle.engine.specs.declared.slip.Contents.{Contents}
use Rattle.engine.specs.Asking.{closing_contents}
use Rattle.depository.specs.Orders.{Order, instruct_order, close_order}
use Rattle.depository.specs.declared.calls.Reply.{Reply}
use Rattle.depository.specs.Moments.{Phase, running, Moment}
use Rattle.depository.specs.Calling.{LeadsTo}
use Rattle.depository.specs.DeviceUse.{medium_in, UsesDevice}

module _ {D : Type 0} (makes : D → DeviceCall → D → Type 0) (means : D → Medium)
    (h : Rulebook) (most_calls : ℕ) where
  -- The call c, answered r, leads from the moment a and the device d to b and e.
  pub record Step (a : Moment) (d : D) (c : Order) (r : Reply) (b : Moment) (e : D) : Type 0 where
    -- the device means what the moment says
    pub means-it : means d ≡ medium_in a.phase
    -- an instruction's numbers are no wider than its fields
    pub fit : (x : Instruction) → c ≡ instruct_order x → IsEncodable x
    pub does : LeadsTo h most_calls a c r b
    pub uses : UsesDevice makes h a.phase c d e

-- The calls cs, answered rs, lead one after another from the moment a and the device d to b and e.
pub data Path {D : Type 0} (makes : D → DeviceCall → D → Type 0) (means : D → Medium)
    (h : Rulebook) (most_calls : ℕ)
    : Moment → D → List Order → List Reply → Moment → D → Type 0 where
  no_calls : {a : Moment} {d : D}
      → means d ≡ medium_in a.phase → Path makes means h most_calls a d [] [] a d
  first_call : {a m b : Moment} {d e f : D} {c : Order} {r : Reply}
      {cs : List Order} {rs : List Reply}
      → Step makes means h most_calls a d c r m e
      → Path makes means h most_calls m e cs rs b f
      → Path makes means h most_calls a d (c ∷ cs) (r ∷ rs) b f

-- What the slip of this call tells: none but a close gives one, and to an engine. It is
-- unknown (None) where that engine's opening was refused.
abbrev pub slip_of_call : Phase → Order → Option Contents
slip_of_call (running v) close_order = closing_contents v
slip_of_call phase c = None

module _ {D : Type 0} {makes : D → DeviceCall → D → Type 0} {means : D → Medium}
    {h : Rulebook} {most_calls : ℕ} where
  -- what the last known slip tells that a call of the path gave, or None where no call gave one
  unfoldable pub last_known_slip : {a b : Moment} {d e : D} {cs : List Order} {rs : List Reply}
      → Path makes means h most_calls a d cs rs b e → Option Contents
  last_known_slip (no_calls is) = None
  last_known_slip (first_call {a = a} {c = c} step rest) =
      option_or (last_known_slip rest) (slip_of_call a.phase c)
