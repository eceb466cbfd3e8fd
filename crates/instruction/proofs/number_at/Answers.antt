use Rattle.std.proofs.Common.{◌≡◌, ◌+◌, ◌-◌, take, drop, ap, ◌∙◌, arith}
use Rattle.little_endian.specs.Little.{le_number}
use Rattle.little_endian.proofs.Widths.{part-slice}
use Rattle.instruction.proofs.number_at.Goals as goal

pub returns : goal.returns
returns g c =
    let bs = c.args.b.now in
    let w : c.args.at + g.row.N - c.args.at ≡ g.row.N = omega arith in
    let cut = c.copy_from_slice.ensures.after ∙ ap (λ n. take n (drop c.args.at bs)) w
    ∙ part-slice g.row.N c.args.at bs c.requires in
    c.from_little_endian.ensures.value ∙ ap le_number cut
