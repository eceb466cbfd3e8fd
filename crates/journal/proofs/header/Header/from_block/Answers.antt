use Rattle.std.proofs.Common.{◌≡◌, true, false, drop, Err, refl, ap, ◌∙◌, rules}
use Rattle.std.proofs.lemmas.List.{take_rest}
use Rattle.refusals.specs.declared.Refusal.TheVariants.{NotAHeader}
use Rattle.journal.specs.Blocks.{all_zero, header_in}
use Rattle.journal.proofs.Trips.{reads-header, header-told}
use Rattle.journal.proofs.header.Header.from_block.Goals as goal

pub returns-then-not-all_zero : goal.returns-then-not-all_zero
returns-then-not-all_zero c =
    let bs = c.args.block.now in
    let z : false ≡ all_zero (drop 8 bs) = c.if-not-all_zero.ensures ∙ ap all_zero (take_rest bs 8) in
    let e : Err NotAHeader ≡ header_in bs = search rules in
    record { value = e; exact = reads-header bs _ c.told-block c.fits-block e; most = refl }

pub returns : goal.returns
returns c =
    let bs = c.args.block.now in
    let z : true ≡ all_zero (drop 8 bs) = c.if-not-all_zero.ensures ∙ ap all_zero (take_rest bs 8) in
    let e = header-told bs c.from_little_endian-pairs.result (search rules) (search rules) (search rules)
    (search rules) (search rules) z in
    record { value = e; exact = reads-header bs _ c.told-block c.fits-block e; most = refl }
