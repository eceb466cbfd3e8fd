-- What the books' acceptance rests on: terms are proper, and what a trade has blocked is there.
use Rattle.std.proofs.Common.{◌≡◌, ℕ, ◌<◌, ◌≤◌, true, false, eqb, ◌⊎◌, List, Some, None, Ok, sym, refl, ap, ◌∙◌, inl, inr, ⊎_elim, arith}
use Rattle.std.proofs.lemmas.Bool.{eqb-true, eqb-false, eq-eqb, cases_Bool, leb-false, or_parts}
use Rattle.instruction.specs.declared.Kind.TheVariants.{Issue, PayIn, Enter}
use Rattle.instruction.specs.declared.Instruction.{Instruction}
use Rattle.instruction.specs.Kinds.{kind_at}
use Rattle.book.specs.Sums.{amount_if, is_place}
use Rattle.book.specs.Rulings.{first_refusal}
use Rattle.rulebook.specs.declared.State.{State}
use Rattle.rulebook.specs.declared.State.TheVariants.{Unentered, Entered}
use Rattle.rulebook.specs.declared.Terms.{Terms}
use Rattle.rulebook.specs.Table.{Act, state_after}
use Rattle.rulebook.specs.Terms.{terms_of, Side, securities, cash, giver, taker, asset, volume}
use Rattle.rulebook.specs.Rules.{Rulebook, Standing, has_blocked, all_checks, set_at, states_after, is_enter, terms_after, AreAccepted, start, more}
use Rattle.rulebook.specs.Flows.{credits}
use Rattle.rulebook.proofs.Checks.{cleared, right, was-entered}
use Rattle.rulebook.proofs.Step.{covers}
use Rattle.rulebook.proofs.Whole.{fair}

-- a trade's terms, once it was entered
pub record Proper (h : Rulebook) (m : Terms) : Type 0 where
  pub giver-low : (d : Side) → giver d m < 64
  pub taker-low : (d : Side) → taker d m < 64
  pub apart : m.seller ≡ m.buyer → ⊥
  pub asset-low : (d : Side) → asset d m < (h.book_kind d).items
  pub some-volume : (d : Side) → 0 < volume d m

-- what the books' acceptance rests on
pub record Safe (h : Rulebook) (s : Standing) : Type 0 where
  pub proper : (t : ℕ) → (s.state t ≡ Unentered) ⊎ Proper h (s.terms t)
  pub covered : (d : Side) (t : ℕ) → t < 128 → has_blocked d (s.state t) ≡ true
      → volume d (s.terms t) ≤ (s.book d).blocked (giver d (s.terms t)) (asset d (s.terms t))

module _ (P : Terms → Type 0) (st : ℕ → State) (tm : ℕ → Terms) (h : (t : ℕ) → (st t ≡ Unentered) ⊎ P (tm t)) where
  set-entered : (t : ℕ) (m : Terms) → P m → (u : ℕ) → (set_at st t Entered u ≡ Unentered) ⊎ P (set_at tm t m u)
  set-entered t m p u =
      ⊎_elim (λ (e : eqb t u ≡ true). inr (rw e p)) (λ (e : eqb t u ≡ false). rw e (h u)) (cases_Bool (eqb t u))

  set-on : (t : ℕ) (old new : State) → st t ≡ old → (old ≡ Unentered → ⊥) → (u : ℕ)
      → (set_at st t new u ≡ Unentered) ⊎ P (tm u)
  set-on t old new e ne u =
      ⊎_elim (λ (y : eqb t u ≡ true).
      ⊎_elim (λ n. absurd (ne (sym e ∙ ap st (eqb-true t u y) ∙ n))) (λ p. inr p) (h u))
      (λ (y : eqb t u ≡ false). rw y (h u)) (cases_Bool (eqb t u))

module _ (h : Rulebook) where
  proper-step : (s : Standing) (x : Instruction) → ((t : ℕ) → (s.state t ≡ Unentered) ⊎ Proper h (s.terms t))
      → (k : Act) (o : State) → s.state x.trade ≡ o → first_refusal (all_checks h k o (s.terms x.trade) s x) ≡ Ok tt
      → (t : ℕ) → (states_after (state_after k) s.state x.trade t ≡ Unentered) ⊎ Proper h (terms_after
      (is_enter k) s.terms x t)
  proper-step s x q (Some Issue) o e p = q
  proper-step s x q (Some PayIn) o e p = q
  proper-step s x q None o e p = q
  proper-step s x q (Some Enter) o e p =
      let c = (cleared h (s.terms x.trade) s x (Some Enter) o p).1.1.1.1 in
      let low = or_parts _ _ c.1.0 in
      let items = or_parts _ _ c.1.1.0 in
      let some = or_parts (eqb x.quantity 0) (eqb x.amount 0) c.1.1.1.0 in
      let seller : x.account < 64 = leb-false _ _ low.0 in
      let buyer : x.counterparty < 64 = leb-false _ _ low.1 in
      set-entered (Proper h) s.state s.terms q x.trade (terms_of x) (record {
        giver-low = λ d. elim d as (λ d. giver d (terms_of x) < 64) [ securities ↦ seller | cash ↦ buyer ];
        taker-low = λ d. elim d as (λ d. taker d (terms_of x) < 64) [ securities ↦ buyer | cash ↦ seller ];
        apart = eqb-false _ _ c.0;
        asset-low = λ d. elim d as (λ d. asset d (terms_of x) < (h.book_kind d).items)
            [ securities ↦ leb-false _ _ items.0 | cash ↦ leb-false _ _ items.1 ];
        some-volume = λ d. elim d as (λ d. 0 < volume d (terms_of x)) [
          | securities ↦ (let z = eqb-false x.quantity 0 some.0 in omega arith)
          | cash ↦
              (let z = eqb-false x.amount 0 some.1 in omega arith)
        ];
      })
  proper-step s x q k o e p =
      set-on (Proper h) s.state s.terms q x.trade o _ e
      (was-entered k o refl (right h k o (s.terms x.trade) s x tt p).from)

  proper : {xs : List Instruction} {s : Standing} → AreAccepted h xs s → (t : ℕ)
      → (s.state t ≡ Unentered) ⊎ Proper h (s.terms t)
  proper start t = inl refl
  proper (more {s = s} x r e) t = proper-step s x (proper r) (kind_at x.kind) (s.state x.trade) refl e t

  unentered-blocks-none : (d : Side) → has_blocked d Unentered ≡ false
  unentered-blocks-none securities = refl
  unentered-blocks-none cash = refl

  -- what a trade has blocked is there
  blocked-there : {xs : List Instruction} {s : Standing} → AreAccepted h xs s → (d : Side) (t : ℕ) (o : State) → t < 128
      → s.state t ≡ o → has_blocked d o ≡ true → volume d (s.terms t) ≤ (s.book d).blocked (giver d (s.terms t))
      (asset d (s.terms t))
  blocked-there {xs} {s} r d t o l e ho =
      let m = s.terms t in
      let f = fair h r d (giver d m) (asset d m) in
      let q = covers d (s.book d) s.state s.terms (credits (giver d m) (asset d m) d xs) (giver d m)
      (asset d m) t o Unentered l e f ho (unentered-blocks-none d) in
      let w : amount_if (is_place (giver d m) (asset d m) (giver d m) (asset d m)) (volume d m) ≡ volume d m = rw
      (eq-eqb (giver d m) (giver d m) refl, eq-eqb (asset d m) (asset d m) refl) in
      omega (arith, q, w)

pub safe : (h : Rulebook) (xs : List Instruction) (s : Standing) → AreAccepted h xs s → Safe h s
safe h xs s r = record { proper = proper h r; covered = λ d t l y. blocked-there h r d t (s.state t) l refl y }
