use Rattle.std.proofs.Common.{◌≡◌, sym, subst, rules}
use Rattle.script.specs.Requests.{request_in}
use Rattle.script.specs.LineLaw.{ReadsLine}
use Rattle.script.proofs.Reading.{reads-line}
use Rattle.script.proofs.read_line.Goals as goal

pub returns : goal.returns
unfolding request_in
returns c =
    let bs = c.args.line.now in
    let e : c.ok_or.result ≡ request_in bs = search rules in
    record { value = e; exact = subst (ReadsLine bs) (sym e) (reads-line bs) }
