-- What the kind says of a call fixes the image and the calls left.
use Rattle.std.proofs.Common.{◌≡◌, ℕ, List, Ok, Err, sym, ◌∙◌}
use Rattle.device.specs.Calls.{Answer, spend_answer}
use Rattle.images.specs.Images.{block_count}
use Rattle.device.specs.declared.TheConstants.{MOST_CALLS}
use Rattle.device.specs.Traces.{reading, writing, syncing, restarting, LeavesNothingOpen, ReadsKeep}
use Rattle.images.proofs.Rows.{each-fixed}
use Rattle.images.proofs.Determined.{DeterminesImage, image-fixed}
use Rattle.simulated.specs.Rows.{row_after_sync, row_after_restart, SyncsImage, LeavesImage}
use Rattle.simulated.specs.declared.rows.TheConstants.{ROW}
use Rattle.simulated.specs.Meaning.{image_of, state_of, Makes}

sync-fixed : (r : Answer) (xs ys zs : List ℕ) → SyncsImage r xs ys → SyncsImage r xs zs → ys ≡ zs
sync-fixed (Ok x) xs ys zs s t = each-fixed 514 row_after_sync (block_count 514 xs) xs ys zs s t
sync-fixed (Err e) xs ys zs s t = s ∙ sym t

after-fixed : DeterminesImage LeavesImage
after-fixed (reading b room) xs left ys zs s t = s ∙ sym t
after-fixed (writing b bytes) xs left ys zs s t = s ∙ sym t
after-fixed syncing xs left ys zs s t = sync-fixed (spend_answer left) xs ys zs s t
after-fixed (restarting calls remains) xs left ys zs s t =
    each-fixed 514 (row_after_restart xs remains) (block_count 514 xs) xs ys zs s t

pub fixed : LeavesNothingOpen state_of Makes
fixed = image-fixed ROW MOST_CALLS LeavesImage after-fixed state_of

pub reads : ReadsKeep image_of Makes
reads b room d d' m = m.image
