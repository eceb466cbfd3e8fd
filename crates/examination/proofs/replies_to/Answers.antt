use Rattle.std.proofs.lemmas.Result.{MatchResult-at_ok}
use Rattle.examination.proofs.replies_to.Goals as goal

pub returns-in-Ok : goal.returns-in-Ok
returns-in-Ok g c = record {
  end = _;
  device = _;
  survives = MatchResult-at_ok _ _ _ c.in-Ok.is c.serve-depository.ensures.served;
}
