-- The bytes of the images that the program makes devices from.
use Rattle.std.specs.Prelude.{ℕ, List, ◌∷◌, ◌++◌, replicate}
use Rattle.device.specs.declared.TheConstants.{BLOCK_SIZE}
use Rattle.check_drill.specs.declared.pictures.Row.{Row}

-- a flag and a block's bytes, all alike
abbrev pub half : (flag byte : ℕ) → List ℕ
half flag byte = flag ∷ replicate BLOCK_SIZE byte

-- a row in the image of a simulated device
abbrev pub simulated_row : Row → List ℕ
simulated_row r = half r.flag r.kept ++ half r.loose r.newer

-- a row in the image of a battery-backed device
abbrev pub battery_row : Row → List ℕ
battery_row r = half r.flag r.kept
