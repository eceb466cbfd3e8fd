use Rattle.std.proofs.Common.{◌≡◌, ◌+◌, ◌-◌, ◌*◌, ◌<◌, length, get_or, drop, Some, None, sym, ap, ◌∙◌, arith, rules}
use Rattle.std.proofs.lemmas.Bool.{eqb-true}
use Rattle.std.proofs.lemmas.List.{at_drop_more, at_drop_all}
use Rattle.script.specs.Numerals.{numeral_from, numeral}
use Rattle.script.proofs.Num.{turn, stray, over, reads-number}
use Rattle.script.proofs.number.Goals as goal
use Rattle.script.proofs.number.Goals.{then-n-most-via-then-n-most, then-n-most-via-else-n-most+then-digit-most}

pub returns-in_default-clause-exact : goal.returns-in_default-clause-exact
returns-in_default-clause-exact c = reads-number c.args.most c.args.digits.now None (search rules) (search rules)

pub returns-in_default-2-clause-exact : goal.returns-in_default-2-clause-exact
returns-in_default-2-clause-exact c = reads-number c.args.most c.args.digits.now None (search rules) (search rules)

pub returns-in_default-3-clause-exact : goal.returns-in_default-3-clause-exact
returns-in_default-3-clause-exact c = reads-number c.args.most c.args.digits.now None (search rules) (search rules)

pub returns-in_default-4-clause-exact : goal.returns-in_default-4-clause-exact
returns-in_default-4-clause-exact c = reads-number c.args.most c.args.digits.now None (search rules) (search rules)

pub returns-in_default-5-clause-exact : goal.returns-in_default-5-clause-exact
returns-in_default-5-clause-exact c = reads-number c.args.most c.args.digits.now None (search rules) (search rules)

pub returns-then-not-is_ascii_digit : goal.returns-then-not-is_ascii_digit
returns-then-not-is_ascii_digit c =
    let bs = c.args.digits.now in
    let i = c.loop-d.d-index in
    let v : None ≡ numeral c.args.most bs =
    sym (sym c.loop-d.invariant.1 ∙ at_drop_more (numeral_from c.args.most c.loop-d.n) bs i 0 (omega arith)
    ∙ stray c.args.most c.loop-d.n (get_or bs i 0) (drop (i + 1) bs) (sym c.if-not-is_ascii_digit.ensures.value)) in
    record { value = v; bound = tt; exact = reads-number c.args.most bs None (search rules) v }

pub returns-then-n-most : goal.returns-then-n-most
returns-then-n-most c =
    let bs = c.args.digits.now in
    let i = c.loop-d.d-index in
    let d = c.if-not-is_ascii_digit.ensures.cases in
    let e = c.from-digit.ensures in
    let o : c.args.most < c.loop-d.n * 10 + (get_or bs i 0 - 48) = elim c.then-n-most.branch [
      | then-n-most-via-then-n-most w ↦ omega (arith, w.if-n-most.true)
      | then-n-most-via-else-n-most+then-digit-most w ↦ omega (arith, w.if-n-most.false, w.if-digit-most.true)
    ] in
    let v : None ≡ numeral c.args.most bs =
    sym (sym c.loop-d.invariant.1 ∙ at_drop_more (numeral_from c.args.most c.loop-d.n) bs i 0 (omega arith)
    ∙ over c.args.most c.loop-d.n (get_or bs i 0) (drop (i + 1) bs) d.0 d.1 o) in
    record { value = v; bound = tt; exact = reads-number c.args.most bs None (search rules) v }

pub loop-d-preserved : goal.loop-d-preserved
loop-d-preserved c =
    let bs = c.args.digits.now in
    let i = c.loop-d.d-index in
    let d = c.if-not-is_ascii_digit.ensures.cases in
    let e = c.from-digit.ensures in (
      omega arith,
      ap (λ x. numeral_from c.args.most (c.loop-d.n * 10 + x) (drop (i + 1) bs)) e
          ∙ sym (turn c.args.most c.loop-d.n (get_or bs i 0) (drop (i + 1) bs) d.0 d.1 (omega arith))
          ∙ sym (at_drop_more (numeral_from c.args.most c.loop-d.n) bs i 0 (omega arith))
          ∙ c.loop-d.invariant.1,
    )

pub returns : goal.returns
returns c =
    let bs = c.args.digits.now in
    let v : Some c.loop-d.n ≡ numeral c.args.most bs =
    sym (at_drop_all (numeral_from c.args.most c.loop-d.n) bs c.loop-d.d-index (omega arith)) ∙ c.loop-d.invariant.1 in
    record { value = v; bound = c.loop-d.invariant.0; exact = reads-number c.args.most bs (Some c.loop-d.n) (search rules) v }
