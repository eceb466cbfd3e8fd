use Rattle.std.proofs.Common.{sym, ◌∙◌, rules}
use Rattle.std.proofs.lemmas.Slice.Eq.{slice_eq-Decides}
use Rattle.journal.specs.Decoding.{ReadsMark}
use Rattle.journal.proofs.Trips.{reads-mark, same-test}
use Rattle.journal.proofs.entry.is_good_mark.Goals as goal
use Rattle.std.proofs.lemmas.Bool.Decides.{Decides-eqb}

pub returns : goal.returns
returns c =
    let bs = c.args.block.now in
    let d = slice_eq-Decides Decides-eqb bs c.mark_block.result c.eq.result c.eq.ensures in
    let exact : ReadsMark c.args.entry bs c.eq.result = record {
      good = λ h. d.0 h
          ∙ c.mark_block.ensures.value;
      only = λ e. d.1 (e ∙ sym c.mark_block.ensures.value);
    } in
    let spec = reads-mark c.args.entry bs (search rules) c.told-block c.fits-block in
    record { value = same-test _ _ _ _ exact spec; exact = exact }
