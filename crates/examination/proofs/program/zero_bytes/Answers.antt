use Rattle.std.proofs.Common.{rules}
use Rattle.examination.specs.Program.{zero_bytes}
use Rattle.examination.proofs.program.zero_bytes.Goals as goal

pub returns : goal.returns
unfolding zero_bytes
returns c = search rules
