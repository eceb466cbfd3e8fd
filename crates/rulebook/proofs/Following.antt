-- Where a ledger stands after it was given an instruction.
use Rattle.std.proofs.Common.{◌≡◌, [], ◌∷◌, ◌++◌, Ok, Err, Result, sym, refl, ap, ◌∙◌, subst}
use Rattle.refusals.specs.declared.Refusal.{Refusal}
use Rattle.instruction.specs.declared.Instruction.{Instruction}
use Rattle.refusals.specs.Answers.{if_ok}
use Rattle.rulebook.specs.Table.{TradeSteps}
use Rattle.rulebook.specs.Rules.{Rulebook, Standing, answer, effect, step, more, IsReachable}
use Rattle.rulebook.specs.Law.{FollowsRules}
use Rattle.rulebook.proofs.Carries.{books-accept}
use Rattle.rulebook.proofs.Meanings.{accepted-steps}

-- an accepted instruction takes effect, and a refused one changes nothing
pub accepted : (h : Rulebook) (s : Standing) (x : Instruction) → answer h s x ≡ Ok tt → step h s x ≡ effect s x
accepted h s x e = ap (λ r. if_ok r (effect s x) s) e

pub refused : (h : Rulebook) (s : Standing) (x : Instruction) (f : Refusal) → answer h s x ≡ Err f → step h s x ≡ s
refused h s x f e = ap (λ r. if_ok r (effect s x) s) e

-- in both cases some list of accepted instructions leads there
stepped : (h : Rulebook) (s : Standing) (x : Instruction) → IsReachable h s → (r : Result (Unit {0}) Refusal)
    → answer h s x ≡ r → IsReachable h (if_ok r (effect s x) s)
stepped h s x (xs, run) (Ok u) e = (xs ++ (x ∷ []), more x run e)
stepped h s x z (Err f) e = z

pub reachable-step : (h : Rulebook) (s : Standing) (x : Instruction) → IsReachable h s → IsReachable h (step h s x)
reachable-step h s x z = stepped h s x z (answer h s x) refl

pub follows-rules : (h : Rulebook) (s t : Standing) (x : Instruction) → IsReachable h s → t ≡ step h s x
    → FollowsRules h s t x
follows-rules h s t x z e = record {
  after = e;
  reachable = subst (λ u. IsReachable h u) (sym e) (reachable-step h s x z);
  books-accept = books-accept h z.0 s x z.1;
  trade-steps = λ ok l m. subst (λ u. TradeSteps (s.state x.trade) x.kind (u.state x.trade))
      (sym (e ∙ accepted h s x ok)) (accepted-steps h s x ok l m);
}
