-- The list of loose blocks beside an image. There is no list after memory for it ran out.
use Rattle.std.specs.Prelude.{◌≡◌, ℕ, ◌+◌, ◌≤◌, Bool, true, false, if◌then◌else◌, ◌||◌, List, [], ◌∷◌, length, Some, None, Option, IfSome, Vec, vec_items, ◌==◌}
use Rattle.std.specs.declared.alloc.Global.{Global}
use Rattle.images.specs.Images.{of_row}
use Rattle.simulated.specs.declared.rows.TheConstants.{ROW}
use Rattle.simulated.specs.Rows.{is_loose, row_after_sync}

abbrev pub is_on : (list : List ℕ) (b : ℕ) → Bool
is_on [] b = false
is_on (x ∷ xs) b = x == b || is_on xs b

-- Each loose block of the image is on the list.
abbrev pub ListsLoose : (list image : List ℕ) → Type 0
ListsLoose list image = (b : ℕ) → of_row ROW is_loose false image b ≡ true → is_on list b ≡ true

-- the same of a list that may be missing
abbrev pub ListsLooseIfAny : (list : Option (Vec ℕ Global)) (image : List ℕ) → Type 0
ListsLooseIfAny list image = IfSome list (λ v. ListsLoose (vec_items v) image)

-- The list, if there is one, has at most n blocks.
abbrev pub IsShort : (list : Option (Vec ℕ Global)) (n : ℕ) → Type 0
IsShort list n = IfSome list (λ v. length (vec_items v) ≤ n)

-- The block is on the list, if there is one.
abbrev pub IsOnIfAny : (list : Option (Vec ℕ Global)) (block : ℕ) → Type 0
IsOnIfAny list block = IfSome list (λ v. is_on (vec_items v) block ≡ true)

-- the row r of block b after a sync of the blocks on a list
abbrev pub row_after_listed_sync : (list : List ℕ) (b : ℕ) (r : List ℕ) → List ℕ
row_after_listed_sync list b r = if is_on list b then row_after_sync b r else r

-- What becomes of a list as a block is written that was loose or not: the block is on it, with all
-- that were, and the list grows only by a block that was not loose.
pub record AddsBlock (list list' : List ℕ) (loose : Bool) (block : ℕ) : Type 0 where
  pub before : (k : ℕ) → is_on list k ≡ true → is_on list' k ≡ true
  pub here : is_on list' block ≡ true
  pub short : length list' ≤ (if loose then length list else length list + 1)

-- The same of a list that may be missing: it may be given up for want of memory, and none is
-- begun.
abbrev pub AddsIfAny : (old new : Option (Vec ℕ Global)) (loose : Bool) (block : ℕ) → Type 0
AddsIfAny old None loose block = Unit {0}
AddsIfAny None (Some v') loose block = ⊥
AddsIfAny (Some v) (Some v') loose block = AddsBlock (vec_items v) (vec_items v') loose block
