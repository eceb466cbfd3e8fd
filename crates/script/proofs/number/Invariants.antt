use Rattle.std.proofs.Common.{◌≡◌, ◌≤◌, drop}
use Rattle.script.specs.Numerals.{numeral_from, numeral}
use Rattle.script.proofs.number.Given as goal

abbrev pub invariant-loop-d : goal.invariant-loop-d
invariant-loop-d l = (l.n ≤ l.most) × (numeral_from l.most l.n (drop l.d-index l.digits) ≡ numeral l.most l.digits)
