-- What a simulated device means, and what its kind says of a call.
use Rattle.std.specs.Prelude.{ℕ, List, vec_items}
use Rattle.device.specs.declared.TheConstants.{MOST_CALLS}
use Rattle.device.specs.Medium.{Medium}
use Rattle.device.specs.Traces.{DeviceCall}
use Rattle.images.specs.Images.{image_medium}
use Rattle.images.specs.Changes.{ChangesImage}
use Rattle.simulated.specs.Rows.{is_loose, shown_bytes, LeavesImage}
use Rattle.simulated.specs.declared.rows.TheConstants.{ROW}
use Rattle.simulated.specs.declared.state.Simulated.{Simulated}

abbrev pub image_of : Simulated → List ℕ
image_of d = vec_items d.rows.image

-- the device that an image is with a number of calls left
abbrev pub meaning_of : (image : List ℕ) (calls_left : ℕ) → Medium
meaning_of image calls_left = image_medium ROW shown_bytes is_loose image calls_left

abbrev pub meaning : Simulated → Medium
meaning d = meaning_of (image_of d) d.rows.calls_left

-- the image and the calls left, which are all that a caller can see of the device
abbrev pub state_of : Simulated → List ℕ × ℕ
state_of d = (image_of d, d.rows.calls_left)

-- A call leads from the device d to e.
abbrev pub Makes : (d : Simulated) → DeviceCall → (e : Simulated) → Type 0
Makes d call e = ChangesImage ROW MOST_CALLS LeavesImage (state_of d) call (state_of e)
