use Rattle.std.proofs.Common.{refl, sym, subst, ◌∙◌, rules}
use Rattle.journal.specs.Places.{RecordPlaces}
use Rattle.journal.proofs.Placing.{record-placed}
use Rattle.journal.proofs.entry.record_block.Goals as goal

pub returns-clause-value : goal.returns-clause-value
returns-clause-value c =
    let n = c.copy_from_slice.ensures.after ∙ c.to_little_endian-number.ensures in
    let b = c.copy_from_slice-2.ensures.after ∙ c.to_bytes.ensures.value in
    rw (n, b) refl

pub returns-clause-places : goal.returns-clause-places
returns-clause-places c =
    subst (λ bs. RecordPlaces c.args.entry c.args.x.now bs) (sym (returns-clause-value c))
    (record-placed c.args.entry c.args.x.now (search rules))
