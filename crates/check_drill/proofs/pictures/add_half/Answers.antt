use Rattle.std.proofs.Common.{[], ◌∷◌, replicate, refl, ◌∙◌}
use Rattle.std.proofs.lemmas.Slice.{pushed}
use Rattle.std.proofs.lemmas.Bool.{cond-true}
use Rattle.check_drill.proofs.Joins.{join-both}
use Rattle.check_drill.proofs.pictures.add_half.Goals as goal

pub returns : goal.returns
returns c ok =
    join-both c.args.image.now.items (c.args.flag ∷ []) (replicate 256 c.args.byte) c.push.new.self.items
    c.extend_from_slice.new.self.items
    (pushed (c.args.flag ∷ []) refl c.in_ok-push.was c.push.ensures.items)
    (c.extend_from_slice.ensures.items ∙ cond-true _ _ _ ok)
