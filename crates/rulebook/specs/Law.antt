-- The law of the ledger, and what giving one instruction leaves.
use Rattle.std.specs.Prelude.{◌≡◌, ℕ, ◌+◌, ◌≤◌, List, Ok, Err, Result}
use Rattle.instruction.specs.declared.Instruction.{Instruction}
use Rattle.instruction.specs.Kinds.{kind_at}
use Rattle.book.specs.Rulings.{ruling}
use Rattle.rulebook.specs.declared.State.TheVariants.{Unentered}
use Rattle.rulebook.specs.Terms.{Side}
use Rattle.rulebook.specs.Table.{TradeSteps}
use Rattle.rulebook.specs.Rules.{Rulebook, Standing, AreAccepted, IsReachable, answer, step, deed}
use Rattle.rulebook.specs.Flows.{credits, outflows, inflows, holds}
use Rattle.rulebook.specs.Words.{IsOn, IsEnterOn, HasNo, IsLast, IsStateAfter, StatesTerms}

-- The law stands apart from the rules that it guards. What a list of instructions says of a trade
-- is defined in Words, what is summed for an account in Flows. Both use the types of the rules,
-- and none of the functions by which the rules answer and change things.

-- For account a and item i of side d's book, the amounts add up.
pub record AddsUp (d : Side) (xs : List Instruction) (s : Standing) (a i : ℕ) : Type 0 where
  -- free and blocked, and what trades took away, are what was credited and what trades brought
  pub whole :
      (s.book d).free a i + (s.book d).blocked a i + outflows a i d s
      ≡ credits a i d xs + inflows a i d s
  -- what is blocked is what trades hold
  pub blocked-part : (s.book d).blocked a i ≡ holds a i d s

-- The list determines where a ledger stands: each trade's state and terms, each account's amounts.
pub record Determines (xs : List Instruction) (s : Standing) : Type 0 where
  -- a trade on which the list has no instruction was never entered
  pub unentered : (t : ℕ) → HasNo (IsOn t) xs → s.state t ≡ Unentered
  -- any other trade is in the state in which its last instruction leaves it
  pub states :
      (t : ℕ) (x : Instruction) → IsLast (IsOn t) x xs → IsStateAfter x.kind (s.state t)
  -- and on the terms that its last Enter states
  pub terms :
      (t : ℕ) (x : Instruction) → IsLast (IsEnterOn t) x xs → StatesTerms x (s.terms t)
  pub amounts : (d : Side) (a i : ℕ) → AddsUp d xs s a i

-- The law: whatever the rule book, a list of instructions that is accepted one after another, from
-- the empty standing on, determines the standing to which it leads.
abbrev pub LawOfTheLedger : Type 0
LawOfTheLedger =
    (h : Rulebook) (xs : List Instruction) (s : Standing) → AreAccepted h xs s → Determines xs s

-- Where the rules accept an instruction, each book accepts what they have it do: a Settle or a
-- Free never finds too little blocked.
abbrev pub BooksAccept : Rulebook → Standing → Instruction → Type 0
BooksAccept h s x =
    answer h s x ≡ Ok tt → (d : Side)
    → ruling (h.book_kind d) (s.book d)
    (deed (kind_at x.kind) d (s.state x.trade) (s.terms x.trade) x) ≡ Ok tt

-- A ledger that stood at `old` was given the instruction x, and stands at `new`.
pub record FollowsRules (h : Rulebook) (old new : Standing) (x : Instruction) : Type 0 where
  -- books and trades are those of the rules
  pub after : new ≡ step h old x
  -- accepted instructions lead there too, so the law holds of it
  pub reachable : IsReachable h new
  pub books-accept : BooksAccept h old x
  -- an accepted instruction of kind 3 to 7 moves its trade by one of the steps
  pub trade-steps :
      answer h old x ≡ Ok tt → 3 ≤ x.kind → x.kind ≤ 7
      → TradeSteps (old.state x.trade) x.kind (new.state x.trade)

-- what a call answers, and where the ledger stands before and after it: a refusal moves nothing
abbrev pub RefusalChangesNothing : {X E : Type 0} → Result X E → Standing → Standing → Type 0
RefusalChangesNothing (Ok u) old new = Unit {0}
RefusalChangesNothing (Err f) old new = new ≡ old
