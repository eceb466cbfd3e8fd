use Rattle.std.proofs.Common.{◌≡◌, sym, subst, rules}
use Rattle.instruction.specs.Layout.{instruction_in, Reads}
use Rattle.instruction.proofs.Trips.{reads}
use Rattle.instruction.proofs.Instruction.from_bytes.Goals as goal

pub returns : goal.returns
returns c =
    let bs = c.args.bytes.now in
    let e : _ ≡ instruction_in bs = search rules in
    record { value = e; exact = subst (Reads bs) (sym e) (reads bs (λ i. let f = c.type_inv.bytes i in search rules)) }
