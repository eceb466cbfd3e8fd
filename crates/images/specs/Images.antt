-- An image of a device: rows of one width w, one for each block, and perhaps bytes past them that
-- no block has. In each row the first byte is 0 if the block is readable, and a block's bytes
-- follow.
use Rattle.std.specs.Prelude.{◌≡◌, ℕ, ◌*◌, ◌/◌, ◌<◌, ◌≤◌, min, Bool, false, if◌then◌else◌, List, length, take, drop, Some, None, Option, ◌==◌, nat_lt, slice_index}
use Rattle.device.specs.declared.TheConstants.{BLOCK_SIZE, MOST_BLOCKS}
use Rattle.device.specs.Medium.{Medium}
use Rattle.images.specs.Splices.{splice}

-- the image's whole rows, as many as a device may have
abbrev pub block_count : (w : ℕ) (image : List ℕ) → ℕ
block_count w image = min (length image / w) MOST_BLOCKS

-- the row of block b
abbrev pub row : (w : ℕ) (image : List ℕ) (b : ℕ) → List ℕ
row w image b = take w (drop (w * b) image)

-- the image with r for the row of block b
abbrev pub with_row : (w : ℕ) (image : List ℕ) (b : ℕ) (r : List ℕ) → List ℕ
with_row w image b r = splice image (w * b) r

-- a block's bytes behind the first byte of the row r
abbrev pub kept_bytes : List ℕ → List ℕ
kept_bytes r = take BLOCK_SIZE (drop 1 r)

abbrev pub is_readable : List ℕ → Bool
is_readable r = slice_index r 0 == 0

-- those bytes, if the first byte says that they can be read
abbrev pub held_bytes : List ℕ → Option (List ℕ)
held_bytes r = if is_readable r then Some (kept_bytes r) else None

-- what f says of the row of block b, or `none` if the image has no such block
abbrev pub of_row : {A : Type 0} → (w : ℕ) (f : List ℕ → A) (none : A) (image : List ℕ) (b : ℕ) → A
of_row w f none image b = if nat_lt b (block_count w image) then f (row w image b) else none

-- the device that an image means, by what a row reads as and whether it is loose
abbrev pub image_medium : (w : ℕ) (shown_bytes : List ℕ → Option (List ℕ))
    (is_loose : List ℕ → Bool) (image : List ℕ) (calls_left : ℕ) → Medium
image_medium w shown_bytes is_loose image calls_left = record {
  size = block_count w image;
  holds = of_row w shown_bytes None image;
  loose = of_row w is_loose false image;
  calls_left = calls_left;
}

-- The image ys is xs with f b for the row of each block b of the first n, and all else as it was.
pub record ChangesRows (w : ℕ) (f : ℕ → List ℕ → List ℕ) (n : ℕ) (xs ys : List ℕ) : Type 0 where
  pub len : length ys ≡ length xs
  pub rows : (b : ℕ) → b < n → row w ys b ≡ f b (row w xs b)
  pub rest : (k : ℕ) → w * n ≤ k → slice_index ys k ≡ slice_index xs k
