-- What the kind says of a call fixes the image and the calls left.
use Rattle.std.proofs.Common.{sym, ◌∙◌}
use Rattle.device.specs.declared.TheConstants.{MOST_CALLS}
use Rattle.device.specs.Traces.{reading, writing, syncing, restarting, LeavesNothingOpen, ReadsKeep}
use Rattle.images.proofs.Determined.{DeterminesImage, image-fixed}
use Rattle.battery.specs.declared.row.TheConstants.{ROW}
use Rattle.battery.specs.Meaning.{image_of, state_of, LeavesImage, Makes}

after-fixed : DeterminesImage LeavesImage
after-fixed (reading b room) xs left ys zs s t = s ∙ sym t
after-fixed (writing b bytes) xs left ys zs s t = s ∙ sym t
after-fixed syncing xs left ys zs s t = s ∙ sym t
after-fixed (restarting calls remains) xs left ys zs s t = s ∙ sym t

pub fixed : LeavesNothingOpen state_of Makes
fixed = image-fixed ROW MOST_CALLS LeavesImage after-fixed state_of

pub reads : ReadsKeep image_of Makes
reads b room d d' m = m.image
