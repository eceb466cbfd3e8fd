-- The rule book: what an instruction is answered, and what an accepted one changes.
use Rattle.std.specs.Prelude.{◌≡◌, ℕ, ◌≤◌, Bool, true, false, if◌then◌else◌, not, ◌||◌, List, [], ◌∷◌, ◌++◌, Some, None, Ok, Err, Option, Result, ◌==◌, nat_eq, nat_le, nat_lt}
use Rattle.std.specs.Option.{option_map}
use Rattle.refusals.specs.declared.Refusal.{Refusal}
use Rattle.refusals.specs.declared.Fault.{Fault}
use Rattle.refusals.specs.Faults.{plain, of_trade}
use Rattle.instruction.specs.declared.Kind.TheVariants.{Issue, PayIn, Enter, Earmark, Fund, Settle, Free}
use Rattle.instruction.specs.declared.Instruction.{Instruction}
use Rattle.instruction.specs.declared.Field.TheVariants.{Trade as TradeField}
use Rattle.instruction.specs.Kinds.{kind_at}
use Rattle.instruction.specs.Fields.{uses, has_stray}
use Rattle.book.specs.declared.TheConstants.{ACCOUNTS}
use Rattle.book.specs.Holdings.{Holdings, BookKind, nothing, Deed, no_change, crediting, blocking, releasing, moving, apply}
use Rattle.refusals.specs.Answers.{if_ok}
use Rattle.book.specs.Rulings.{Check, ◌refuses◌, first_refusal, checks}
use Rattle.rulebook.specs.declared.TheConstants.{TRADES}
use Rattle.rulebook.specs.declared.State.{State}
use Rattle.rulebook.specs.declared.State.TheVariants.{Unentered, Earmarked, Funded}
use Rattle.rulebook.specs.declared.Terms.{Terms}
use Rattle.rulebook.specs.declared.Trade.{Trade}
use Rattle.rulebook.specs.Table.{Act, is_among, state_after, may_start, next_state}
use Rattle.rulebook.specs.Terms.{no_terms, terms_of, Side, securities, cash, giver, taker, asset, volume}

-- The letters here: h a rule book, s a standing, x an instruction, k what it asks for, d a side,
-- and of a trade t its number, o its state, m its terms.

-- What is fixed before the first instruction.
pub record Rulebook : Type 0 where
  -- the kinds of the register and of the cash book
  pub book_kind : Side → BookKind

-- Where a ledger stands.
pub record Standing : Type 0 where
  -- the register and the cash book
  pub book : Side → Holdings
  -- each trade's state and terms, by its number
  pub state : ℕ → State
  pub terms : ℕ → Terms

-- no instruction was accepted yet
abbrev pub empty : Standing
empty = record { book = λ d. nothing; state = λ t. Unentered; terms = λ t. no_terms }

-- the states in which a trade has its quantity blocked, or its amount
abbrev pub states_with_blocked : Side → List State
states_with_blocked securities = Earmarked ∷ Funded ∷ []
states_with_blocked cash = Funded ∷ []

-- a trade in state o has something blocked on this side
abbrev pub has_blocked : Side → State → Bool
has_blocked d o = is_among o (states_with_blocked d)

-- the rules know this kind of instruction: all seven, in every rule book
abbrev pub knows_kind : Rulebook → Act → Bool
knows_kind h None = false
knows_kind h (Some k) = true

-- a field is filled that the kind has no use for
abbrev pub has_stray_field : Act → Instruction → Bool
has_stray_field (Some k) x = has_stray k x
has_stray_field None x = false

-- the trade's number; its state, which refuses by the number n; then the further checks
abbrev pub trade_checks : Act → ℕ → State → Instruction → List Check → List Check
trade_checks k n o x cs = nat_le TRADES x.trade refuses 30 ∷ not (may_start k o) refuses n ∷ cs

-- the giver has enough free of what the trade gives on this side
abbrev pub enough_free : Side → Terms → Standing → Check
enough_free d m s = nat_lt ((s.book d).free (giver d m) (asset d m)) (volume d m) refuses 25

module _ (h : Rulebook) where
  -- what an Enter is checked for once its trade may be entered: seller and buyer differ, both
  -- accounts exist, item and currency exist, and neither the quantity nor the amount is 0
  abbrev pub enter_checks : Instruction → List Check
  enter_checks x =
      nat_eq x.account x.counterparty refuses 33
      ∷ (nat_le ACCOUNTS x.account || nat_le ACCOUNTS x.counterparty) refuses 21
      ∷ (nat_le (h.book_kind securities).items x.item
      || nat_le (h.book_kind cash).items x.currency) refuses 22
      ∷ (x.quantity == 0 || x.amount == 0) refuses 23 ∷ []

  -- the checks of a kind, where the trade is in state o on terms m
  abbrev pub checks_of : Act → State → Terms → Standing → Instruction → List Check
  checks_of (Some Issue) o m s x =
      checks (h.book_kind securities) (s.book securities) (crediting x.account x.item x.quantity)
  checks_of (Some PayIn) o m s x =
      checks (h.book_kind cash) (s.book cash) (crediting x.account x.currency x.amount)
  checks_of (Some Enter) o m s x = trade_checks (Some Enter) 34 o x (enter_checks x)
  checks_of (Some Earmark) o m s x =
      trade_checks (Some Earmark) 35 o x (enough_free securities m s ∷ [])
  checks_of (Some Fund) o m s x = trade_checks (Some Fund) 35 o x (enough_free cash m s ∷ [])
  checks_of (Some Settle) o m s x = trade_checks (Some Settle) 35 o x []
  checks_of (Some Free) o m s x = trade_checks (Some Free) 35 o x []
  checks_of None o m s x = []

  -- all checks in their order: the kind is known, no other field is filled, then those of the kind
  abbrev pub all_checks : Act → State → Terms → Standing → Instruction → List Check
  all_checks k o m s x =
      not (knows_kind h k) refuses 32 ∷ has_stray_field k x refuses 31 ∷ checks_of k o m s x

  -- the answer to an instruction that is taken as one of this kind
  abbrev pub answer_as : Act → Standing → Instruction → Result (Unit {0}) Refusal
  answer_as k s x = first_refusal (all_checks k (s.state x.trade) (s.terms x.trade) s x)

  -- the answer to an instruction: its kind byte says the kind
  abbrev pub answer : Standing → Instruction → Result (Unit {0}) Refusal
  answer s x = answer_as (kind_at x.kind) s x

-- an instruction of a kind that uses the trade names one
abbrev pub names_trade : Act → Bool
names_trade (Some k) = uses k TradeField
names_trade None = false

-- a fault of such an instruction names that trade
abbrev pub fault_about : Instruction → Fault → Fault
fault_about x f = if names_trade (kind_at x.kind) then of_trade x.trade f else f

-- The same by the kind bytes: from the fault f of the instruction x comes the fault g.
pub record NamesItsTrade (x : Instruction) (f g : Fault) : Type 0 where
  -- at 3 to 7 it names the instruction's trade; at any other byte the trade that f names, if any
  pub named : 3 ≤ x.kind → x.kind ≤ 7 → g.trade ≡ Some x.trade
  pub other : (3 ≤ x.kind → x.kind ≤ 7 → ⊥) → g.trade ≡ f.trade
  -- all else is as in f
  pub refusal : g.refusal ≡ f.refusal
  pub block : g.block ≡ f.block
  pub entry : g.entry ≡ f.entry
  pub rule : g.rule ≡ f.rule

-- the fault by which an instruction is refused
abbrev pub fault_of : Instruction → Refusal → Fault
fault_of x r = fault_about x (plain r)

-- an answer whose refusal is a fault of the instruction
abbrev pub with_trade : Instruction → Result (Unit {0}) Refusal → Result (Unit {0}) Fault
with_trade x (Ok u) = Ok u
with_trade x (Err r) = Err (fault_of x r)

-- the rules' answer, with the trade in its fault
abbrev pub fault_answer : Rulebook → Standing → Instruction → Result (Unit {0}) Fault
fault_answer h s x = with_trade x (answer h s x)

-- the function f, with the value v at t
abbrev pub set_at : {X : Type 0} → (ℕ → X) → ℕ → X → ℕ → X
set_at f t v u = if t == u then v else f u

-- the states of all trades, with trade t in its new state, if it has one
abbrev pub states_after : Option State → (ℕ → State) → ℕ → ℕ → State
states_after None f t = f
states_after (Some s) f t = set_at f t s

abbrev pub is_enter : Act → Bool
is_enter (Some Enter) = true
is_enter k = false

-- the terms of all trades after an instruction: an Enter (true) sets those of its trade
abbrev pub terms_after : Bool → (ℕ → Terms) → Instruction → ℕ → Terms
terms_after true f x = set_at f x.trade (terms_of x)
terms_after false f x = f

-- the trade after an instruction of this kind, if it may start from the trade's state
abbrev pub next_trade : Act → Instruction → Trade → Option Trade
next_trade k x trade =
    option_map (λ p. record { state = p; terms = if is_enter k then terms_of x else trade.terms })
    (next_state k trade.state)

-- What an instruction has one side's book do, where its trade is in state o on terms m. An Issue
-- credits the register, a Pay in the cash book. An Earmark blocks what the seller gives, a Fund
-- what the buyer pays. A Settle moves both. A Free releases whatever its trade has blocked.
abbrev pub deed : Act → Side → State → Terms → Instruction → Deed
deed (Some Issue) securities o m x = crediting x.account x.item x.quantity
deed (Some Issue) cash o m x = no_change
deed (Some PayIn) securities o m x = no_change
deed (Some PayIn) cash o m x = crediting x.account x.currency x.amount
deed (Some Enter) d o m x = no_change
deed (Some Earmark) securities o m x = blocking m.seller m.item m.quantity
deed (Some Earmark) cash o m x = no_change
deed (Some Fund) securities o m x = no_change
deed (Some Fund) cash o m x = blocking m.buyer m.currency m.amount
deed (Some Settle) d o m x = moving (giver d m) (taker d m) (asset d m) (volume d m)
deed (Some Free) d o m x =
    if has_blocked d o then releasing (giver d m) (asset d m) (volume d m) else no_change
deed None d o m x = no_change

-- where an accepted instruction leads
abbrev pub effect : Standing → Instruction → Standing
effect s x =
    let k = kind_at x.kind in
    let o = s.state x.trade in
    let m = s.terms x.trade in
    record {
      book = λ d. apply (s.book d) (deed k d o m x);
      state = states_after (state_after k) s.state x.trade;
      terms = terms_after (is_enter k) s.terms x;
    }

-- an accepted instruction takes effect, a refused one changes nothing
abbrev pub step : Rulebook → Standing → Instruction → Standing
step h s x = if_ok (answer h s x) (effect s x) s

-- From the empty standing on, the rules accept the list's instructions one after another, and
-- these lead to s.
pub data AreAccepted (h : Rulebook) : List Instruction → Standing → Type 0 where
  start : AreAccepted h [] empty
  more :
      {xs : List Instruction} {s : Standing} (x : Instruction)
      → AreAccepted h xs s → answer h s x ≡ Ok tt
      → AreAccepted h (xs ++ (x ∷ [])) (effect s x)

-- some list of accepted instructions leads here
abbrev pub IsReachable : Rulebook → Standing → Type 0
IsReachable h s = (xs : List Instruction) × AreAccepted h xs s
