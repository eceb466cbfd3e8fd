-- Lemmas that the model of `Remains` cites: the given bytes determine their number and the whole
-- room.
use Rattle.std.specs.Prelude.{◌≡◌, ℕ, List, length, take}
use Rattle.std.proofs.Common.{arith}
use Rattle.std.proofs.lemmas.List.{take-append-drop, length-take-le}
use Rattle.script.specs.Padded.{with_zeros, IsPadded}

pub count-own : (bytes : List ℕ) (count : ℕ)
    → IsPadded bytes count → length (take count bytes) ≡ count
count-own bytes count h = length-take-le count bytes (omega arith)

pub with_zeros-own : (bytes : List ℕ) (count : ℕ)
    → IsPadded bytes count → with_zeros (take count bytes) ≡ bytes
with_zeros-own bytes count h =
    rw (count-own bytes count h, ← h.zeros) (take-append-drop count bytes)
