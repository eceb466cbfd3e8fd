-- What each call of a depository does to its device, as the device's kind says it.
use Rattle.std.specs.Prelude.{◌≡◌}
use Rattle.rulebook.specs.Rules.{Rulebook}
use Rattle.device.specs.Medium.{Medium}
use Rattle.device.specs.Traces.{DeviceCall, restarting, IsTrace}
use Rattle.device.specs.declared.Device as device
use Rattle.book.specs.declared.Book as book
use Rattle.engine.specs.Tracing.{instruct_calls, opening_calls}
use Rattle.depository.specs.declared.condition.Condition.{Condition}
use Rattle.depository.specs.declared.condition.Condition.TheVariants.{Running, Shut}
use Rattle.depository.specs.Orders.{Order, instruct_order, restart_order, open_order}
use Rattle.depository.specs.Moments.{Phase, running, shut}

-- what the device means
abbrev pub medium_in : Phase → Medium
medium_in (running v) = v.medium
medium_in (shut m books) = m

-- the device itself
abbrev pub device_of : {D R C : Type 0}
    {d : device.Ghosts D} {r : book.Ghosts R} {c : book.Ghosts C} → Condition D R C d r c → D
device_of (Running engine) = engine.device
device_of (Shut device register cash) = device

module _ {D : Type 0} (makes : D → DeviceCall → D → Type 0) (h : Rulebook) where
  -- The call c, given in this phase, leads from the device d to the device e: through the device's
  -- calls of an instruction or of an opening, or through one restart. Any other call leaves it.
  abbrev pub UsesDevice : Phase → Order → D → D → Type 0
  UsesDevice (running v) (instruct_order x) d e = IsTrace makes (instruct_calls h x v) d e
  UsesDevice (shut m books) (restart_order calls_left remains) d e =
      makes d (restarting calls_left remains) e
  UsesDevice (shut m books) open_order d e = IsTrace makes (opening_calls h m) d e
  UsesDevice phase c d e = e ≡ d
