-- The rows of a simulated device's image, and what each call makes of them. In a row byte 0 is 0
-- if the block is readable, its kept bytes follow, the byte at LOOSE_FLAG is 0 if the block is not
-- loose, and its newer bytes follow.
use Rattle.std.specs.Prelude.{◌≡◌, ℕ, zero, suc, ◌+◌, Bool, if◌then◌else◌, not, List, ◌∷◌, ◌++◌, length, take, drop, replicate, Some, Ok, Err, Option, ◌==◌, slice_index}
use Rattle.refusals.specs.Answers.{if_ok}
use Rattle.device.specs.declared.TheConstants.{BLOCK_SIZE}
use Rattle.device.specs.Calls.{Answer, admit_answer, spend_answer}
use Rattle.device.specs.Traces.{DeviceCall, reading, writing, syncing, restarting}
use Rattle.images.specs.Images.{block_count, row, with_row, kept_bytes, is_readable, held_bytes, ChangesRows}
use Rattle.simulated.specs.declared.rows.TheConstants.{ROW, LOOSE_FLAG, NEWER, HALF_BLOCK}

abbrev pub newer_bytes : List ℕ → List ℕ
newer_bytes r = take BLOCK_SIZE (drop NEWER r)

abbrev pub is_loose : List ℕ → Bool
is_loose r = not (slice_index r LOOSE_FLAG == 0)

-- what the block of the row r reads as
abbrev pub shown_bytes : List ℕ → Option (List ℕ)
shown_bytes r = if is_loose r then Some (newer_bytes r) else held_bytes r

-- the row after a write, which leaves byte 0 and the kept bytes
abbrev pub row_after_write : (r bytes : List ℕ) → List ℕ
row_after_write r bytes = take LOOSE_FLAG r ++ (1 ∷ bytes)

-- the row r made not loose, with a first byte and kept bytes; its newer bytes stay
abbrev pub firm_row : (flag : ℕ) (bytes r : List ℕ) → List ℕ
firm_row flag bytes r = flag ∷ (bytes ++ (0 ∷ newer_bytes r))

-- the row r of block b after a sync
abbrev pub row_after_sync : (b : ℕ) (r : List ℕ) → List ℕ
row_after_sync b r = if is_loose r then firm_row 0 (newer_bytes r) r else r

-- what a write leaves that was cut in the middle
abbrev pub torn_bytes : List ℕ → List ℕ
torn_bytes r = take HALF_BLOCK (newer_bytes r) ++ drop HALF_BLOCK (kept_bytes r)

-- the row after such a write: half new and half old, or unreadable if the old bytes are
abbrev pub torn_row : List ℕ → List ℕ
torn_row r =
    if is_readable r then firm_row 0 (torn_bytes r) r else firm_row 1 (kept_bytes r) r

-- what a restart makes of a loose row, by its byte v of the remains
abbrev pub revived_row : (v : ℕ) (r : List ℕ) → List ℕ
revived_row v r =
    if v == 0 then firm_row (slice_index r 0) (kept_bytes r) r
    else (if v == 1 then firm_row 0 (newer_bytes r) r
    else (if v == 2 then firm_row 1 (kept_bytes r) r
    else (if v == 3 then torn_row r
    else firm_row 0 (replicate BLOCK_SIZE v) r)))

-- how many of the first b blocks are loose
abbrev pub loose_count : (image : List ℕ) (b : ℕ) → ℕ
loose_count image zero = 0
loose_count image (suc b) =
    if is_loose (row ROW image b) then loose_count image b + 1 else loose_count image b

-- The row r of block b after a restart: the loose blocks take the remains in rising number, and 0
-- where none is left.
abbrev pub row_after_restart : (image remains : List ℕ) (b : ℕ) (r : List ℕ) → List ℕ
row_after_restart image remains b r =
    if is_loose r then revived_row (slice_index remains (loose_count image b)) r else r

-- the image after an accepted write to block b
abbrev pub image_after_write : (image : List ℕ) (b : ℕ) (bytes : List ℕ) → List ℕ
image_after_write image b bytes = with_row ROW image b (row_after_write (row ROW image b) bytes)

-- A sync that is answered so makes the image xs to ys.
abbrev pub SyncsImage : Answer → (xs ys : List ℕ) → Type 0
SyncsImage (Ok x) xs ys = ChangesRows ROW row_after_sync (block_count ROW xs) xs ys
SyncsImage (Err e) xs ys = ys ≡ xs

-- A restart makes the image xs to ys.
abbrev pub RestartsImage : (xs remains ys : List ℕ) → Type 0
RestartsImage xs remains ys =
    ChangesRows ROW (row_after_restart xs remains) (block_count ROW xs) xs ys

-- A call of a device with the image xs and so many calls left makes the image to ys.
abbrev pub LeavesImage : (xs : List ℕ) (calls_left : ℕ) → DeviceCall → (ys : List ℕ) → Type 0
LeavesImage xs calls_left (reading b room) ys = ys ≡ xs
LeavesImage xs calls_left (writing b bytes) ys =
    let answer = admit_answer (block_count ROW xs) calls_left b (length bytes) in
    ys ≡ if_ok answer (image_after_write xs b bytes) xs
LeavesImage xs calls_left syncing ys = SyncsImage (spend_answer calls_left) xs ys
LeavesImage xs calls_left (restarting asked remains) ys = RestartsImage xs remains ys

-- where a row's parts lie and where a torn write stops, counted out so that a wrong constant is
-- refused
pub record RowByNumber : Type 0 where
  pub width : ROW ≡ 514
  pub flag : LOOSE_FLAG ≡ 257
  pub newer : NEWER ≡ 258
  pub half : HALF_BLOCK ≡ 128
