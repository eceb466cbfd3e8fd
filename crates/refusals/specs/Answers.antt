-- Which of two values holds after a call: the new one if it was accepted, else the old one.
use Rattle.std.specs.Prelude.{Ok, Err, Result}

abbrev pub if_ok : {X E Y : Type 0} → Result X E → Y → Y → Y
if_ok (Ok x) new old = new
if_ok (Err e) new old = old
