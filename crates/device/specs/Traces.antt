-- The calls that a device goes through in order, and what its kind says of each.
use Rattle.std.specs.Prelude.{◌≡◌, ℕ, ◌-◌, min, List, length}
use Rattle.std.specs.List.{FoldsTo}
use Rattle.refusals.specs.Answers.{if_ok}
use Rattle.device.specs.Calls.{admit_answer, spend_answer}

-- a call, as far as the device is concerned
pub data DeviceCall : Type 0 where
  -- a read of a block into a buffer of `room` bytes
  reading : (block room : ℕ) → DeviceCall
  writing : (block : ℕ) (bytes : List ℕ) → DeviceCall
  syncing : DeviceCall
  restarting : (calls_left : ℕ) (remains : List ℕ) → DeviceCall

-- The calls, made in order, lead from the device d to d', by what its kind says of each.
abbrev pub IsTrace : {D : Type 0} → (makes : D → DeviceCall → D → Type 0) →
    List DeviceCall → (d d' : D) → Type 0
IsTrace makes calls d d' = FoldsTo makes d calls d'

-- A kind leaves nothing open if what is seen of a device before a call fixes what is seen of it
-- afterwards.
abbrev pub LeavesNothingOpen : {D S : Type 0} → (seen : D → S) →
    (makes : D → DeviceCall → D → Type 0) → Type 0
LeavesNothingOpen {D} seen makes =
    (call : DeviceCall) (d e d' e' : D) → makes d call d' → makes e call e'
    → seen d ≡ seen e → seen d' ≡ seen e'

-- By this kind a read changes nothing that is seen.
abbrev pub ReadsKeep : {D S : Type 0} → (seen : D → S) →
    (makes : D → DeviceCall → D → Type 0) → Type 0
ReadsKeep {D} seen makes =
    (block room : ℕ) (d d' : D) → makes d (reading block room) d' → seen d' ≡ seen d

-- The calls that are left after a call of a device with so many blocks and calls, whose restarts
-- give at most most_calls.
abbrev pub calls_left_after : (most_calls size calls_left : ℕ) → DeviceCall → ℕ
calls_left_after most_calls size calls_left (reading b room) =
    if_ok (admit_answer size calls_left b room) (calls_left - 1) calls_left
calls_left_after most_calls size calls_left (writing b bytes) =
    if_ok (admit_answer size calls_left b (length bytes)) (calls_left - 1) calls_left
calls_left_after most_calls size calls_left syncing =
    if_ok (spend_answer calls_left) (calls_left - 1) calls_left
calls_left_after most_calls size calls_left (restarting asked remains) = min asked most_calls
