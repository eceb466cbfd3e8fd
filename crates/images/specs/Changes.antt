-- What a call makes of a device that is an image and the calls left.
use Rattle.std.specs.Prelude.{◌≡◌, ℕ, List}
use Rattle.device.specs.Traces.{DeviceCall, calls_left_after}
use Rattle.images.specs.Images.{block_count}

-- A call leads from s to s', each an image with a number of calls left. The rows have width w. A
-- restart gives most_calls at most. After says what the kind makes of an image and its calls left.
pub record ChangesImage (w most_calls : ℕ) (After : List ℕ → ℕ → DeviceCall → List ℕ → Type 0)
    (s : List ℕ × ℕ) (call : DeviceCall) (s' : List ℕ × ℕ) : Type 0 where
  pub image : After s.0 s.1 call s'.0
  pub calls_left : s'.1 ≡ calls_left_after most_calls (block_count w s.0) s.1 call
