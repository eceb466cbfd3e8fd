-- The law of the ledger, over every list of accepted instructions.
use Rattle.std.proofs.Common.{◌≡◌, ℕ, List, sym, refl, ap, ◌∙◌, subst, arith}
use Rattle.std.proofs.lemmas.List.Sums.{fold_push, sum_by_push}
use Rattle.instruction.specs.declared.Instruction.{Instruction}
use Rattle.instruction.specs.Kinds.{kind_at}
use Rattle.book.specs.Holdings.{nothing}
use Rattle.book.proofs.Sums.{sum_below-zero}
use Rattle.rulebook.specs.declared.State.TheVariants.{Unentered}
use Rattle.rulebook.specs.Table.{state_after}
use Rattle.rulebook.specs.Terms.{no_terms, Side, securities, cash}
use Rattle.rulebook.specs.Rules.{Rulebook, Standing, states_after, is_enter, terms_after, AreAccepted, start, more}
use Rattle.rulebook.proofs.Replay.{read_state, state_in, read_terms, terms_in, give_of, take_of, hold_of}
use Rattle.rulebook.specs.Flows.{credit, credits}
use Rattle.rulebook.proofs.Fields.{outflows-is, inflows-is, holds-is}
use Rattle.rulebook.proofs.Meanings.{stay, after-last, stated-last}
use Rattle.rulebook.specs.Words.{IsStateAfter, StatesTerms}
use Rattle.rulebook.specs.Law.{LawOfTheLedger}
use Rattle.rulebook.proofs.Step.{Fair, credited_by, fair-step}

credit-code : (d : Side) (x : Instruction) (a i : ℕ) → credit a i d x ≡ credited_by (kind_at x.kind) d x a i
credit-code securities x a i = grind arith
credit-code cash x a i = grind arith

module _ (h : Rulebook) where
  pub state-is : {xs : List Instruction} {s : Standing} → AreAccepted h xs s → s.state ≡ state_in xs
  state-is start = refl
  state-is (more {xs = xs} {s = s} x r e) =
      ap (λ f. states_after (state_after (kind_at x.kind)) f x.trade) (state-is r)
      ∙ sym (fold_push read_state (λ t. Unentered) xs x)

  pub terms-is : {xs : List Instruction} {s : Standing} → AreAccepted h xs s → s.terms ≡ terms_in xs
  terms-is start = refl
  terms-is (more {xs = xs} {s = s} x r e) =
      ap (λ f. terms_after (is_enter (kind_at x.kind)) f x) (terms-is r)
      ∙ sym (fold_push read_terms (λ t. no_terms) xs x)

  fair-start : (d : Side) (a i : ℕ) → Fair d (nothing) (λ t. Unentered) (λ t. no_terms) 0 a i
  fair-start d a i =
      let g = sum_below-zero 128 (λ t. give_of d a i Unentered no_terms) (λ t. refl) in
      let k = sum_below-zero 128 (λ t. take_of d a i Unentered no_terms) (λ t. refl) in
      let m = sum_below-zero 128 (λ t. hold_of d a i Unentered no_terms) (λ t. none-blocked d) in
      record { whole = omega arith; part = omega arith }
    where
      none-blocked : (d : Side) → hold_of d a i Unentered no_terms ≡ 0
      none-blocked securities = refl
      none-blocked cash = refl

  pub fair : {xs : List Instruction} {s : Standing} → AreAccepted h xs s → (d : Side) (a i : ℕ)
      → Fair d (s.book d) s.state s.terms (credits a i d xs) a i
  fair start d a i = fair-start d a i
  fair (more {xs = xs} {s = s} x r e) d a i =
      rw (sum_by_push (λ y. credit a i d y) xs x)
      (fair-step h s x a i (kind_at x.kind) d (s.state x.trade) (credits a i d xs) (credit a i d x)
      (credit-code d x a i) (fair r d a i) refl e)

pub law-of-the-ledger : LawOfTheLedger
law-of-the-ledger h xs s r = record {
  unentered = λ t n. ap (λ f. f t) (state-is h r) ∙ stay xs (λ t. Unentered) t n;
  states = λ t x l. subst (λ f. IsStateAfter x.kind (f t)) (sym (state-is h r)) (after-last xs (λ t. Unentered) x t l);
  terms = λ t x l. subst (λ f. StatesTerms x (f t)) (sym (terms-is h r)) (stated-last xs (λ t. no_terms) x t l);
  amounts = λ d a i.
      let f = fair h r d a i in
      let g = outflows-is a i d s.state s.terms in
      let k = inflows-is a i d s.state s.terms in
      let m = holds-is a i d s.state s.terms in
      record { whole = omega (arith, f.whole, g, k); blocked-part = f.part ∙ sym m };
}
