use Rattle.std.proofs.Common.{refl, sym, ◌∙◌, rules}
use Rattle.std.proofs.lemmas.Slice.Eq.{slice_eq-Decides}
use Rattle.std.proofs.lemmas.Bool.{not-false}
use Rattle.std.proofs.lemmas.Bool.Decides.{Decides-eqb, Decides-not}
use Rattle.journal.proofs.Trips.{reads-record, record-other, record-same}
use Rattle.journal.proofs.entry.decode_record.Goals as goal

pub returns-then-ne-clause-value : goal.returns-then-ne-clause-value
returns-then-ne-clause-value c =
    let differs = Decides-not _ (slice_eq-Decides Decides-eqb c.args.block.now c.record_block.result _ refl) in
    record-other c.args.entry c.args.block.now c.in_ok-x.x c.told-block c.fits-block
    (sym c.from_bytes.ensures.value ∙ c.in_ok-x.was)
    (λ e. differs.0 (sym c.if-ne.ensures) (e ∙ sym c.record_block.ensures.value))

pub returns-then-ne-clause-exact : goal.returns-then-ne-clause-exact
returns-then-ne-clause-exact c =
    reads-record c.args.entry c.args.block.now _ (search rules) c.told-block c.fits-block
    (returns-then-ne-clause-value c)

pub returns : goal.returns
returns c =
    let same = slice_eq-Decides Decides-eqb c.args.block.now c.record_block.result _ refl in
    let is = same.0 (not-false _ (sym c.if-ne.ensures)) ∙ c.record_block.ensures.value in
    let value = record-same c.args.entry c.args.block.now c.in_ok-x.x (search rules)
    (sym c.from_bytes.ensures.value ∙ c.in_ok-x.was) is in
    record { value = value; exact = sym is }
