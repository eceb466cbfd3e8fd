-- One accepted instruction keeps the law, for one account and one item.
use Rattle.std.proofs.Common.{◌≡◌, ℕ, ◌+◌, ◌<◌, ◌≤◌, Bool, true, false, cond, Some, None, Ok, sym, refl, subst, ⊎_elim, arith}
use Rattle.std.proofs.lemmas.Bool.{cases_Bool, ltb-false}
use Rattle.instruction.specs.declared.Kind.TheVariants.{Issue, PayIn, Enter, Earmark, Fund, Settle, Free}
use Rattle.instruction.specs.declared.Instruction.{Instruction}
use Rattle.book.specs.Sums.{amount_if, is_place}
use Rattle.book.specs.Holdings.{Holdings, no_change, crediting, blocking, releasing, moving, apply}
use Rattle.book.specs.Rulings.{first_refusal}
use Rattle.rulebook.specs.declared.State.{State}
use Rattle.rulebook.specs.declared.State.TheVariants.{Entered, Earmarked, Funded, Settled, Freed}
use Rattle.rulebook.specs.declared.Terms.{Terms}
use Rattle.rulebook.specs.Table.{Act, state_after}
use Rattle.rulebook.specs.Terms.{Side, securities, cash, giver, taker, asset, volume}
use Rattle.rulebook.specs.Rules.{Rulebook, Standing, has_blocked, all_checks, set_at, states_after, is_enter, terms_after, deed}
use Rattle.rulebook.proofs.Replay.{is_settled, give_of, take_of, hold_of, over}
use Rattle.rulebook.proofs.Checks.{cleared, right, Idle, enter-idle, entered-idle, earmark-idle, fund-from, settle-from, free-from}
use Rattle.book.proofs.Totals.{enough}
use Rattle.rulebook.proofs.Fair.{enters, shift-if}

pub record Fair (d : Side) (b : Holdings) (st : ℕ → State) (tm : ℕ → Terms) (cr a i : ℕ) : Type 0 where
  pub whole : b.free a i + b.blocked a i + over (give_of d a i) st tm ≡ cr + over (take_of d a i) st tm
  pub part : b.blocked a i ≡ over (hold_of d a i) st tm

-- One trade goes from state old to new, and one side's book does what belongs to that.
module _ (d : Side) (b : Holdings) (st : ℕ → State) (tm : ℕ → Terms) (cr a i t : ℕ) (old new : State) (l : t < 128)
    (e : st t ≡ old) (h : Fair d b st tm cr a i) where
  -- what the trade adds to the sums where the account gives, and where it takes
  abbrev out : Terms → ℕ
  out m = amount_if (is_place (giver d m) (asset d m) a i) (volume d m)

  abbrev inn : Terms → ℕ
  inn m = amount_if (is_place (taker d m) (asset d m) a i) (volume d m)

  -- nothing is blocked or released
  pub blocks-same : (blocked : Bool) → is_settled old ≡ false → is_settled new ≡ false → has_blocked d old ≡ blocked
      → has_blocked d new ≡ blocked → Fair d b (set_at st t new) tm cr a i
  blocks-same blocked so sn ho hn =
      let g = shift-if is_settled out st tm t old new false false so sn e l in
      let k = shift-if is_settled inn st tm t old new false false so sn e l in
      let m = shift-if (has_blocked d) out st tm t old new blocked blocked ho hn e l in
      record { whole = omega (arith, h.whole, g, k); part = omega (arith, h.part, m) }

  pub blocks : is_settled old ≡ false → is_settled new ≡ false → has_blocked d old ≡ false
      → has_blocked d new ≡ true → volume d (tm t) ≤ b.free (giver d (tm t)) (asset d (tm t))
      → Fair d (apply b (blocking (giver d (tm t)) (asset d (tm t)) (volume d (tm t)))) (set_at st t new) tm cr a i
  blocks so sn ho hn q =
      let g = shift-if is_settled out st tm t old new false false so sn e l in
      let k = shift-if is_settled inn st tm t old new false false so sn e l in
      let m = shift-if (has_blocked d) out st tm t old new false true ho hn e l in
      let n = enough b.free (giver d (tm t)) (asset d (tm t)) (volume d (tm t)) a i q in
      record { whole = omega (arith, h.whole, g, k, n); part = omega (arith, h.part, m) }

  pub releases : is_settled old ≡ false → is_settled new ≡ false → has_blocked d old ≡ true
      → has_blocked d new ≡ false → Fair d (apply b (releasing (giver d (tm t)) (asset d (tm t)) (volume d (tm t))))
      (set_at st t new) tm cr a i
  releases so sn ho hn =
      let g = shift-if is_settled out st tm t old new false false so sn e l in
      let k = shift-if is_settled inn st tm t old new false false so sn e l in
      let m = shift-if (has_blocked d) out st tm t old new true false ho hn e l in
      record { whole = omega (arith, h.whole, h.part, g, k, m); part = omega (arith, h.part, m) }

  pub moves : is_settled old ≡ false → is_settled new ≡ true → has_blocked d old ≡ true → has_blocked d new ≡ false
      → Fair d (apply b (moving (giver d (tm t)) (taker d (tm t)) (asset d (tm t)) (volume d (tm t))))
      (set_at st t new) tm cr a i
  moves so sn ho hn =
      let g = shift-if is_settled out st tm t old new false true so sn e l in
      let k = shift-if is_settled inn st tm t old new false true so sn e l in
      let m = shift-if (has_blocked d) out st tm t old new true false ho hn e l in
      record { whole = omega (arith, h.whole, h.part, g, k, m); part = omega (arith, h.part, m) }

  -- a Settle and a Free find enough blocked
  pub covers : has_blocked d old ≡ true → has_blocked d new ≡ false → out (tm t) ≤ b.blocked a i
  covers ho hn =
      let m = shift-if (has_blocked d) out st tm t old new true false ho hn e l in
      omega (arith, h.part, m)

-- a trade is entered, from a state that adds nothing
pub entering : (d : Side) (b : Holdings) (st : ℕ → State) (tm : ℕ → Terms) (cr a i t : ℕ) (old : State) (m : Terms)
    → Idle d old → Idle d Entered → st t ≡ old → Fair d b st tm cr a i
    → Fair d b (set_at st t Entered) (set_at tm t m) cr a i
entering d b st tm cr a i t old m io ie e h =
    let g = enters (give_of d a i) old (λ m. rw io.unsettled) (λ m. refl) st tm t m e in
    let k = enters (take_of d a i) old (λ m. rw io.unsettled) (λ m. refl) st tm t m e in
    let n = enters (hold_of d a i) old (λ m. rw io.none-blocked) (λ m. rw ie.none-blocked) st tm t m e in
    record { whole = omega arith; part = omega arith }

pub credited : (d : Side) (b : Holdings) (st : ℕ → State) (tm : ℕ → Terms) (cr a i A I q n : ℕ)
    → n ≡ amount_if (is_place A I a i) q → Fair d b st tm cr a i
    → Fair d (apply b (crediting A I q)) st tm (cr + n) a i
credited d b st tm cr a i A I q n e h = record { whole = omega (arith, h.whole); part = h.part }

pub uncredited : (d : Side) (b : Holdings) (st : ℕ → State) (tm : ℕ → Terms) (cr a i n : ℕ) → n ≡ 0
    → Fair d b st tm cr a i → Fair d b st tm (cr + n) a i
uncredited d b st tm cr a i n e h = record { whole = omega (arith, h.whole); part = h.part }

settled-blocks-none : (d : Side) → has_blocked d Settled ≡ false
settled-blocks-none securities = refl
settled-blocks-none cash = refl

freed-blocks-none : (d : Side) → has_blocked d Freed ≡ false
freed-blocks-none securities = refl
freed-blocks-none cash = refl

-- what an instruction of kind k credits
abbrev pub credited_by : Act → Side → Instruction → ℕ → ℕ → ℕ
credited_by (Some Issue) securities x a i = amount_if (is_place x.account x.item a i) x.quantity
credited_by (Some PayIn) cash x a i = amount_if (is_place x.account x.currency a i) x.amount
credited_by k d x a i = 0

module _ (h : Rulebook) (s : Standing) (x : Instruction) (a i : ℕ) where
  abbrev m : Terms
  m = s.terms x.trade

  abbrev Accepted : Act → State → Type 0
  Accepted k o = first_refusal (all_checks h k o m s x) ≡ Ok tt

  abbrev Next : Act → Side → State → ℕ → Type 0
  Next k d o cr = Fair d (apply (s.book d) (deed k d o m x)) (states_after (state_after k) s.state x.trade)
      (terms_after (is_enter k) s.terms x) cr a i

  pub fair-step : (k : Act) (d : Side) (o : State) (cr n : ℕ) → n ≡ credited_by k d x a i
      → Fair d (s.book d) s.state s.terms cr a i → s.state x.trade ≡ o → Accepted k o → Next k d o (cr + n)
  fair-step (Some Issue) securities o cr n c f e p = credited securities
      (s.book securities) s.state s.terms cr a i x.account x.item x.quantity n c f
  fair-step (Some Issue) cash o cr n c f e p = uncredited _ _ _ _ _ _ _ n c f
  fair-step (Some PayIn) securities o cr n c f e p = uncredited _ _ _ _ _ _ _ n c f
  fair-step (Some PayIn) cash o cr n c f e p = credited cash
      (s.book cash) s.state s.terms cr a i x.account x.currency x.amount n c f
  fair-step None d o cr n c f e p = uncredited _ _ _ _ _ _ _ n c f
  fair-step (Some Enter) d o cr n c f e p =
      let r = right h (Some Enter) o m s x tt p in
      uncredited _ _ _ _ _ _ _ n c (entering _ _ _ _ _ _ _ _ o _ (enter-idle d o r.from) (entered-idle d) e f)
  fair-step (Some Earmark) securities o cr n c f e p =
      let r = right h (Some Earmark) o m s x tt p in
      let w = earmark-idle securities o r.from in
      uncredited _ _ _ _ _ _ _ n c (blocks securities
      (s.book securities) s.state s.terms cr a i x.trade o Earmarked r.low e f w.unsettled refl w.none-blocked
      refl (ltb-false _ _ (cleared h m s x (Some Earmark) o p).1.1.1.1.0))
  fair-step (Some Earmark) cash o cr n c f e p =
      let r = right h (Some Earmark) o m s x tt p in
      let w = earmark-idle cash o r.from in
      uncredited _ _ _ _ _ _ _ n c (blocks-same cash
      (s.book cash) s.state s.terms cr a i x.trade o Earmarked r.low e f false w.unsettled refl w.none-blocked
      refl)
  fair-step (Some Fund) securities o cr n c f e p =
      let r = right h (Some Fund) o m s x tt p in
      let w = fund-from o r.from in
      uncredited _ _ _ _ _ _ _ n c (blocks-same securities
      (s.book securities) s.state s.terms cr a i x.trade o Funded r.low e f true w.2 refl w.0 refl)
  fair-step (Some Fund) cash o cr n c f e p =
      let r = right h (Some Fund) o m s x tt p in
      let w = fund-from o r.from in
      uncredited _ _ _ _ _ _ _ n c (blocks cash
      (s.book cash) s.state s.terms cr a i x.trade o Funded r.low e f w.2 refl w.1 refl
      (ltb-false _ _ (cleared h m s x (Some Fund) o p).1.1.1.1.0))
  fair-step (Some Settle) d o cr n c f e p =
      let r = right h (Some Settle) o m s x tt p in
      let w = settle-from d o r.from in
      uncredited _ _ _ _ _ _ _ n c (moves d
      (s.book d) s.state s.terms cr a i x.trade o Settled r.low e f w.1 refl w.0 (settled-blocks-none d))
  fair-step (Some Free) d o cr n c f e p =
      let r = right h (Some Free) o m s x tt p in
      let w = free-from o r.from in
      uncredited _ _ _ _ _ _ _ n c
      (⊎_elim (λ (y : has_blocked d o ≡ true). subst
      (λ v. Fair d (apply (s.book d) (cond v (releasing (giver d m) (asset d m) (volume d m)) no_change))
      (set_at s.state x.trade Freed) s.terms cr a i) (sym y)
      (releases d (s.book d) s.state s.terms cr a i x.trade o Freed r.low e f w refl y (freed-blocks-none d)))
      (λ (y : has_blocked d o ≡ false). subst (λ v. Fair d
      (apply (s.book d) (cond v (releasing (giver d m) (asset d m) (volume d m)) no_change))
      (set_at s.state x.trade Freed) s.terms cr a i) (sym y)
      (blocks-same d (s.book d) s.state s.terms cr a i x.trade o Freed r.low e f false w refl y (freed-blocks-none d)))
      (cases_Bool (has_blocked d o)))
