-- Kinds of device that leave nothing open.
use Rattle.std.proofs.Common.{◌≡◌}
use Rattle.device.specs.Medium.{Medium}
use Rattle.device.specs.Traces.{DeviceCall, LeavesNothingOpen}

-- What is seen of a device fixes what it means; and by its kind, what is seen before a call fixes
-- what is seen after it.
pub record IsDetermined {D S : Type 0} (makes : D → DeviceCall → D → Type 0) (means : D → Medium)
    (seen : D → S) : Type 0 where
  pub fixed : LeavesNothingOpen seen makes
  pub meaning : (d e : D) → seen d ≡ seen e → means d ≡ means e
