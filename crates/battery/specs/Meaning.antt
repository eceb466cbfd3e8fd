-- What a battery-backed device means, and what its kind says of a call.
use Rattle.std.specs.Prelude.{◌≡◌, ℕ, List, length, vec_items}
use Rattle.refusals.specs.Answers.{if_ok}
use Rattle.device.specs.declared.TheConstants.{MOST_CALLS}
use Rattle.device.specs.Medium.{Medium}
use Rattle.device.specs.Calls.{admit_answer}
use Rattle.device.specs.Traces.{DeviceCall, reading, writing, syncing, restarting}
use Rattle.images.specs.Images.{block_count, held_bytes, row, with_row, image_medium}
use Rattle.images.specs.Changes.{ChangesImage}
use Rattle.battery.specs.Rows.{never_loose, row_after_write}
use Rattle.battery.specs.declared.row.TheConstants.{ROW}
use Rattle.battery.specs.declared.state.Battery.{Battery}

abbrev pub image_of : Battery → List ℕ
image_of d = vec_items d.rows.image

abbrev pub meaning : Battery → Medium
meaning d = image_medium ROW held_bytes never_loose (image_of d) d.rows.calls_left

-- the image after an accepted write to block b
abbrev pub image_after_write : (image : List ℕ) (b : ℕ) (bytes : List ℕ) → List ℕ
image_after_write image b bytes = with_row ROW image b (row_after_write (row ROW image b) bytes)

-- A call of a device with the image xs and so many calls left makes the image to ys.
abbrev pub LeavesImage : (xs : List ℕ) (calls_left : ℕ) → DeviceCall → (ys : List ℕ) → Type 0
LeavesImage xs calls_left (reading b room) ys = ys ≡ xs
LeavesImage xs calls_left (writing b bytes) ys =
    let answer = admit_answer (block_count ROW xs) calls_left b (length bytes) in
    ys ≡ if_ok answer (image_after_write xs b bytes) xs
LeavesImage xs calls_left syncing ys = ys ≡ xs
LeavesImage xs calls_left (restarting asked remains) ys = ys ≡ xs

-- the image and the calls left, which are all that a caller can see of the device
abbrev pub state_of : Battery → List ℕ × ℕ
state_of d = (image_of d, d.rows.calls_left)

-- A call leads from the device d to e.
abbrev pub Makes : (d : Battery) → DeviceCall → (e : Battery) → Type 0
Makes d call e = ChangesImage ROW MOST_CALLS LeavesImage (state_of d) call (state_of e)
