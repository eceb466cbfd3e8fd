-- What `map_err` hands on.
use Rattle.std.proofs.Common.{◌≡◌, Ok, Err, Result, refl}
use Rattle.std.specs.Result.{MatchResult}

-- an error handed on is made from an error
pub mapped : {T E D : Type 0} {P : E → Type 0} (r : Result T E) (y : D)
    → MatchResult r (λ x. ◌≡◌ {A = Result T D} (Err y) (Ok x)) P → (e : E) × (r ≡ Err e) × P e
mapped (Ok x) y h = absurd cc
mapped (Err e) y h = (e, refl, h)
