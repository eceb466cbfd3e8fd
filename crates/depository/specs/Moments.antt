-- A moment: a depository between two calls.
use Rattle.std.specs.Prelude.{Option}
use Rattle.rulebook.specs.Terms.{Side}
use Rattle.book.specs.Holdings.{Holdings}
use Rattle.ledger.specs.View.{both_sides}
use Rattle.device.specs.Medium.{Medium}
use Rattle.device.specs.declared.Device as device
use Rattle.device.specs.declared.PoweredDevice as powered
use Rattle.book.specs.declared.Book as book
use Rattle.engine.specs.declared.slip.Contents.{Contents}
use Rattle.engine.specs.View.{View, view}
use Rattle.depository.specs.declared.condition.Condition.{Condition}
use Rattle.depository.specs.declared.condition.Condition.TheVariants.{Running, Shut}
use Rattle.depository.specs.declared.condition.Depository.{Depository}
use Rattle.depository.specs.OwedSlip.{owed_contents}

-- Either an engine runs, or there are the device and the two books alone.
pub data Phase : Type 0 where
  running : View → Phase
  -- what the device means, and what the register and the cash book hold
  shut : Medium → (Side → Holdings) → Phase

pub record Moment : Type 0 where
  pub phase : Phase
  -- what the slip tells that is owed, if there is one
  pub owed : Option Contents

abbrev pub moment_in : Phase → Option Contents → Moment
moment_in phase owed = record { phase = phase; owed = owed }

module _ {D R C : Type 0} {d : device.Ghosts D} {r : book.Ghosts R} {c : book.Ghosts C} where
  abbrev pub phase_of : Condition D R C d r c → Phase
  phase_of (Running engine) = running (view d.medium engine)
  phase_of (Shut device register cash) =
      shut (d.medium device) (both_sides (r.holdings register) (c.holdings cash))

  abbrev pub moment_of : {p : powered.Ghosts D} → Depository D R C p d r c → Moment
  moment_of depository = moment_in (phase_of depository.condition) (owed_contents depository.owed)
