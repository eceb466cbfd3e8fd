-- A restart as one fact, of the clauses `blocks`, `loose_set` and `calls_left`: m is the device
-- before it, and m' after it.
use Rattle.std.specs.Prelude.{◌≡◌, ℕ, min, false}
use Rattle.device.specs.Medium.{Medium}

-- A restart that is asked for `asked` calls, of a kind whose restarts give at most most_calls.
-- What a block that was loose holds afterwards is for the kind to say.
pub record Restart (m m' : Medium) (asked most_calls : ℕ) : Type 0 where
  pub size : m'.size ≡ m.size
  pub holds : (k : ℕ) → m.loose k ≡ false → m'.holds k ≡ m.holds k
  pub loose : (k : ℕ) → m'.loose k ≡ false
  pub calls_left : m'.calls_left ≡ min asked most_calls
