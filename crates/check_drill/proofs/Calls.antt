-- The calls of a drill.
use Rattle.std.proofs.Common.{◌≡◌, List, [], ◌∷◌, Ok, Err}
use Rattle.refusals.specs.Answers.{if_ok}
use Rattle.device.specs.Calls.{Answer, and_then}
use Rattle.device.specs.Traces.{DeviceCall, IsTrace}
use Rattle.device.proofs.Traces.{traced-append}

-- What follows three calls of which none is refused, answered x, y and z.
module _ {D : Type 0} (makes : D → DeviceCall → D → Type 0) (a b c : DeviceCall) where
  abbrev three : Answer → Answer → Answer → List DeviceCall → List DeviceCall
  three x y z rest = a ∷ if_ok x (b ∷ if_ok y (c ∷ if_ok z rest []) []) []

  pub traced-long : (x y z : Answer) (rest : List DeviceCall) (d d' e : D) → Ok tt ≡ and_then (and_then x y) z
      → IsTrace makes (three x y z []) d d' → IsTrace makes rest d' e → IsTrace makes (three x y z rest) d e
  traced-long (Err g) y z rest d d' e is t s = cc
  traced-long (Ok u) (Err g) z rest d d' e is t s = cc
  traced-long (Ok u) (Ok v) (Err g) rest d d' e is t s = cc
  traced-long (Ok u) (Ok v) (Ok w) rest d d' e is t s = traced-append makes (a ∷ b ∷ c ∷ []) rest d d' e t s
