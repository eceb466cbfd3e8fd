-- What the code carries out is the effect by the rules.
use Rattle.std.proofs.Common.{◌≡◌, ℕ, ◌<◌, true, false, cond, List, length, Some, None, Ok, Err, Result, sym, refl, ap, ◌∙◌, subst, arith}
use Rattle.std.proofs.lemmas.Grind.{common_steps, get_or-set_at}
use Rattle.std.proofs.lemmas.Bool.Decides.{nat_tests}
use Rattle.std.proofs.lemmas.Bool.{cond-false}
use Rattle.refusals.specs.declared.Refusal.{Refusal}
use Rattle.refusals.specs.declared.Fault.{Fault}
use Rattle.instruction.specs.declared.Kind.TheVariants.{Issue, PayIn, Enter}
use Rattle.instruction.specs.declared.Instruction.{Instruction}
use Rattle.instruction.specs.Kinds.{kind_at}
use Rattle.book.specs.declared.Book as book
use Rattle.refusals.specs.Answers.{if_ok}
use Rattle.book.specs.Rulings.{first_refusal}
use Rattle.rulebook.specs.declared.State.{State}
use Rattle.rulebook.specs.declared.State.TheVariants.{Entered}
use Rattle.rulebook.specs.declared.Terms.{Terms}
use Rattle.rulebook.specs.declared.Trade.{Trade}
use Rattle.rulebook.specs.Table.{Act, state_after, may_start, next_state}
use Rattle.rulebook.specs.Terms.{terms_of, Side, securities, cash}
use Rattle.rulebook.specs.Rules.{Rulebook, Standing, all_checks, answer_as, answer, with_trade, fault_answer, set_at, states_after, is_enter, terms_after, deed, effect, IsReachable}
use Rattle.rulebook.specs.Law.{FollowsRules}
use Rattle.ledger.specs.declared.parts.Parts.{Parts}
use Rattle.ledger.specs.View.{rulebook_of, standing_in, book_after}
use Rattle.ledger.specs.Rows.{trade_at, state_at, terms_at, rows_with, rows_after}
use Rattle.rulebook.proofs.Checks.{right}
use Rattle.ledger.proofs.Views.{standing-same}
use Rattle.rulebook.proofs.Carries.{books-accept}
use Rattle.rulebook.proofs.Following.{follows-rules, accepted}
use Rattle.book.proofs.Accepted.{outcome-ok}

-- where a kind may start, the table leads on
next-after : (k : Act) (o : State) → may_start k o ≡ true → next_state k o ≡ state_after k
next-after k o e = rw e

-- one row of the table replaced
module _ (rows : List Trade) (t : ℕ) (trade : Trade) (whole : length rows ≡ 128) (low : t < 128) where
  pub put-state : (u : ℕ) → state_at (rows_with rows t trade) u ≡ set_at (state_at rows) t trade.state u
  put-state u = grind (arith, common_steps, nat_tests, get_or-set_at {X = Trade})

  pub put-terms : (u : ℕ) → terms_at (rows_with rows t trade) u ≡ set_at (terms_at rows) t trade.terms u
  put-terms u = grind (arith, common_steps, nat_tests, get_or-set_at {X = Trade})

-- replacing a trade's terms with themselves changes nothing
same-terms : (f : ℕ → Terms) (t u : ℕ) → set_at f t (f t) u ≡ f u
same-terms f t u = grind (arith, nat_tests)

-- the table after an accepted instruction
pub record RowsFollow (k : Act) (x : Instruction) (rows after-rows : List Trade) : Type 0 where
  pub states : (u : ℕ) → state_at after-rows u ≡ states_after (state_after k) (state_at rows) x.trade u
  pub terms : (u : ℕ) → terms_at after-rows u ≡ terms_after (is_enter k) (terms_at rows) x u

module _ (rows : List Trade) (x : Instruction) (whole : length rows ≡ 128) where
  abbrev o : State
  o = state_at rows x.trade

  -- the instruction may start from the trade's state, so the trade's row is replaced
  moved : (k : Act) (p : State) → state_after k ≡ Some p → may_start k o ≡ true
      → rows_after k x rows ≡ rows_with rows x.trade
      (record { state = p; terms = cond (is_enter k) (terms_of x) (terms_at rows x.trade) })
  moved k p e w = let n : next_state k o ≡ Some p = next-after k o w ∙ e in rw n

  keeps-terms : (k : Act) (p : State) → state_after k ≡ Some p → is_enter k ≡ false → may_start k o ≡ true
      → x.trade < 128 → RowsFollow k x rows (rows_after k x rows)
  keeps-terms k p e i w l =
      let v : Trade = record { state = p; terms = cond (is_enter k) (terms_of x) (terms_at rows x.trade) } in
      let q : v.terms ≡ terms_at rows x.trade = cond-false (is_enter k) (terms_of x) (terms_at rows x.trade) i in
      rw (moved k p e w) (record {
        states = λ u. put-state rows x.trade v whole l u ∙ ap (λ a. states_after a (state_at rows) x.trade u) (sym e);
        terms = λ u. put-terms rows x.trade v whole l u ∙ ap (λ m. set_at (terms_at rows) x.trade m u) q
            ∙ same-terms (terms_at rows) x.trade u ∙ ap (λ b. terms_after b (terms_at rows) x u) (sym i);
      })

  pub rows-follow : (h : Rulebook) (k : Act) (m : Terms) (s : Standing)
      → first_refusal (all_checks h k o m s x) ≡ Ok tt → RowsFollow k x rows (rows_after k x rows)
  rows-follow h (Some Issue) m s p = record { states = λ u. refl; terms = λ u. refl }
  rows-follow h (Some PayIn) m s p = record { states = λ u. refl; terms = λ u. refl }
  rows-follow h None m s p = record { states = λ u. refl; terms = λ u. refl }
  rows-follow h (Some Enter) m s p =
      let r = right h (Some Enter) o m s x tt p in
      let v : Trade = record { state = Entered; terms = terms_of x } in
      rw (moved (Some Enter) Entered refl r.from) (record {
        states = λ u. put-state rows x.trade v whole r.low u;
        terms = λ u. put-terms rows x.trade v whole r.low u;
      })
  rows-follow h k m s p = let r = right h k o m s x tt p in keeps-terms k _ refl refl r.from r.low

-- naming the trade in a fault does not change whether the answer is yes
pub accepts : (x : Instruction) (r : Result (Unit {0}) Refusal) → with_trade x r ≡ Ok tt → r ≡ Ok tt
accepts x (Ok u) e = refl
accepts x (Err r) e = cc

unmoved : (s t : Standing) (x : Instruction) (f : Fault) (r : Result (Unit {0}) Refusal) → with_trade x r ≡ Err f
    → if_ok r t s ≡ s
unmoved s t x f (Ok u) e = cc
unmoved s t x f (Err r) e = refl

-- a ledger that is given an instruction which the rules refuse
pub follows-refused : (h : Rulebook) (s : Standing) (x : Instruction) (f : Fault) → fault_answer h s x ≡ Err f
    → IsReachable h s → FollowsRules h s s x
follows-refused h s x f e z = follows-rules h s s x z (sym (unmoved s (effect s x) x f (answer h s x) e))

-- a ledger that is given an instruction which the rules accept
pub follows-carried : {R C : Type 0} (r : book.Ghosts R) (c : book.Ghosts C) (p q : Parts R C) (x : Instruction)
    (k : Act)
    → kind_at x.kind ≡ k → fault_answer (rulebook_of r.book_kind c.book_kind) (standing_in r c p) x ≡ Ok tt
    → IsReachable (rulebook_of r.book_kind c.book_kind) (standing_in r c p)
    → r.holdings q.register ≡ book_after r.book_kind securities k x (trade_at p.trades.rows x.trade)
    (r.holdings p.register)
    → c.holdings q.cash ≡ book_after c.book_kind cash k x (trade_at p.trades.rows x.trade) (c.holdings p.cash)
    → q.trades.rows ≡ rows_after k x p.trades.rows
    → FollowsRules (rulebook_of r.book_kind c.book_kind) (standing_in r c p) (standing_in r c q) x
follows-carried r c p q x k is v (xs, run) er ec et =
    let h = rulebook_of r.book_kind c.book_kind in
    let s = standing_in r c p in
    let rows = p.trades.rows in
    let trade = trade_at rows x.trade in
    let ok = accepts x (answer h s x) v in
    let takes = books-accept h xs s x run ok in
    let tr = rows-follow rows x p.trades.all_rows h k trade.terms s (subst (λ k. answer_as h k s x ≡ Ok tt) is ok) in
    let done : (d : Side) → book_after (h.book_kind d) d k x trade (s.book d) ≡ (effect s x).book d = λ d.
    ap (λ k. book_after (h.book_kind d) d k x trade (s.book d)) (sym is)
    ∙ sym (outcome-ok (h.book_kind d) (s.book d) (deed (kind_at x.kind) d trade.state trade.terms x)
    (sym (takes d))) in
    let leads : standing_in r c q ≡ effect s x =
    standing-same (r.holdings q.register) (c.holdings q.cash) q.trades.rows (effect s x) (er ∙ done securities)
    (ec ∙ done cash)
    (λ u. ap (λ z. state_at z u) et ∙ tr.states u
    ∙ ap (λ k. states_after (state_after k) (state_at rows) x.trade u) (sym is))
    (λ u. ap (λ z. terms_at z u) et ∙ tr.terms u ∙ ap (λ k. terms_after (is_enter k) (terms_at rows) x u) (sym is)) in
    follows-rules h s (standing_in r c q) x (xs, run) (leads ∙ sym (accepted h s x ok))
