-- Verdicts and refusals by their numbers.
use Rattle.std.proofs.Common.{◌≡◌, ℕ, Bool, true, false, cond, ◌||◌, eqb, Ok, Err, Result, sym, refl, ap, ◌∙◌}
use Rattle.std.proofs.lemmas.Bool.{both_ways}
use Rattle.refusals.specs.declared.Refusal.{Refusal}
use Rattle.refusals.specs.declared.Refusal.TheVariants.{NoBlock}
use Rattle.refusals.specs.Numbers.{number_of}
use Rattle.refusals.proofs.Numbered.{numbers_tell_apart}
use Rattle.engine.specs.declared.slip.Verdict.{Verdict}
use Rattle.engine.specs.declared.slip.Verdict.TheVariants.{Same, Stands, Unknown, Differs}
use Rattle.engine.specs.ClosingSlip.{verdict_number, presented_number, PresentedNumbersDiffer}

-- the verdict with this number, if any has it
abbrev verdict_at : ℕ → Verdict
verdict_at n = cond (eqb n 0) Same (cond (eqb n 1) Stands (cond (eqb n 53) Unknown Differs))

back : (v : Verdict) → verdict_at (verdict_number v) ≡ v
back Same = refl
back Stands = refl
back Unknown = refl
back Differs = refl

abbrev is_verdict : ℕ → Bool
is_verdict n = eqb n 0 || (eqb n 1 || (eqb n 53 || eqb n 54))

verdict-is : (v : Verdict) → is_verdict (verdict_number v) ≡ true
verdict-is Same = refl
verdict-is Stands = refl
verdict-is Unknown = refl
verdict-is Differs = refl

refusal-is-not : (r : Refusal) → is_verdict (number_of r) ≡ false
refusal-is-not NoBlock = refl
refusal-is-not r = refl

apart : (a b : Result Verdict Refusal) → presented_number a ≡ presented_number b → a ≡ b
apart (Ok v) (Ok w) e = ap (λ x. Ok x) (sym (back v) ∙ ap verdict_at e ∙ back w)
apart (Ok v) (Err r) e =
    absurd (both_ways (is_verdict (number_of r)) (refusal-is-not r) (sym (ap is_verdict e) ∙ verdict-is v))
apart (Err r) (Ok v) e =
    absurd (both_ways (is_verdict (number_of r)) (refusal-is-not r) (ap is_verdict e ∙ verdict-is v))
apart (Err r) (Err s) e = ap (λ x. Err x) (numbers_tell_apart.apart r s e)

pub presented_apart : PresentedNumbersDiffer
presented_apart = apart
