-- The sums of the law: what an account was credited, what trades took and brought, what they hold.
use Rattle.std.specs.Prelude.{ℕ, if◌then◌else◌, List, sum_by, ◌==◌}
use Rattle.std.specs.List.{range_with_len}
use Rattle.instruction.specs.declared.Instruction.{Instruction}
use Rattle.rulebook.specs.declared.State.{State}
use Rattle.rulebook.specs.declared.State.TheVariants.{Earmarked, Funded, Settled}
use Rattle.rulebook.specs.declared.Terms.{Terms}
use Rattle.rulebook.specs.declared.TheConstants.{TRADES}
use Rattle.rulebook.specs.Terms.{Side, securities, cash}
use Rattle.rulebook.specs.Rules.{Standing}

-- the numbers of the trades
unfoldable pub trades : List ℕ
trades = range_with_len 0 TRADES

-- Sums for one account and one item of a side's book. An item of the cash book is a currency.
module _ (account item : ℕ) where
  -- what counts of a quantity of item I on account A: all if these are the two, else nothing
  abbrev pub share : ℕ → ℕ → ℕ → ℕ
  share A I quantity = if A == account then (if I == item then quantity else 0) else 0

  -- what an instruction credits: an Issue (kind 1) the register, a Pay in (2) the cash book
  abbrev pub credit : Side → Instruction → ℕ
  credit securities x = if x.kind == 1 then share x.account x.item x.quantity else 0
  credit cash x = if x.kind == 2 then share x.account x.currency x.amount else 0

  -- what left the account in a settled trade: the seller's quantity, the buyer's amount
  abbrev pub outflow : Side → State → Terms → ℕ
  outflow securities Settled m = share m.seller m.item m.quantity
  outflow cash Settled m = share m.buyer m.currency m.amount
  outflow d o m = 0

  -- what came into it: the quantity to the buyer, the amount to the seller
  abbrev pub inflow : Side → State → Terms → ℕ
  inflow securities Settled m = share m.buyer m.item m.quantity
  inflow cash Settled m = share m.seller m.currency m.amount
  inflow d o m = 0

  -- what an open trade holds blocked: once earmarked the seller's quantity, once funded the
  -- buyer's amount too
  abbrev pub hold : Side → State → Terms → ℕ
  hold securities Earmarked m = share m.seller m.item m.quantity
  hold securities Funded m = share m.seller m.item m.quantity
  hold cash Funded m = share m.buyer m.currency m.amount
  hold d o m = 0

  -- over a list of instructions
  abbrev pub credits : Side → List Instruction → ℕ
  credits d xs = sum_by (λ x. credit d x) xs

  -- over all trades, each in the state and on the terms in which it stands
  abbrev pub outflows : Side → Standing → ℕ
  outflows d s = sum_by (λ t. outflow d (s.state t) (s.terms t)) trades

  abbrev pub inflows : Side → Standing → ℕ
  inflows d s = sum_by (λ t. inflow d (s.state t) (s.terms t)) trades

  abbrev pub holds : Side → Standing → ℕ
  holds d s = sum_by (λ t. hold d (s.state t) (s.terms t)) trades
