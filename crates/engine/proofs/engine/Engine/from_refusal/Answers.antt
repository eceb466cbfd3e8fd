use Rattle.engine.proofs.engine.Engine.from_refusal.Goals as goal

pub returns-clause-refused : goal.returns-clause-refused
returns-clause-refused g c = cc
