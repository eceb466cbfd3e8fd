use Rattle.std.proofs.Common.{◌≡◌, ℕ, ◌<◌, ◌≤◌, true, length, vec_items}
use Rattle.images.specs.Images.{row}
use Rattle.simulated.specs.Rows.{is_loose, loose_count}
use Rattle.simulated.specs.Lists.{is_on}
use Rattle.simulated.proofs.loose.list_loose.Given as goal

abbrev pub invariant-loop-b : goal.invariant-loop-b
invariant-loop-b l =
    ((k : ℕ) → k < l.b → is_loose (row 514 l.rows.image.items k) ≡ true → is_on (vec_items l.list) k ≡ true)
    × (length (vec_items l.list) ≤ loose_count l.rows.image.items l.b)
