-- The rows of the table of trades.
use Rattle.std.specs.Prelude.{ℕ, if◌then◌else◌, not, List, Some, None, Ok, Err, Option, Result, nat_le, slice_index_or, slice_set}
use Rattle.refusals.specs.declared.Refusal.{Refusal}
use Rattle.refusals.specs.Numbers.{numbered}
use Rattle.instruction.specs.declared.Instruction.{Instruction}
use Rattle.rulebook.specs.declared.TheConstants.{TRADES}
use Rattle.rulebook.specs.declared.State.{State}
use Rattle.rulebook.specs.declared.State.TheVariants.{Unentered}
use Rattle.rulebook.specs.declared.Terms.{Terms}
use Rattle.rulebook.specs.declared.Trade.{Trade}
use Rattle.rulebook.specs.Table.{Act, may_start}
use Rattle.rulebook.specs.Terms.{no_terms}
use Rattle.rulebook.specs.Rules.{next_trade}

-- a trade that was never entered
abbrev pub unentered_trade : Trade
unentered_trade = record { state = Unentered; terms = no_terms }

-- the trade with this number; past the table, one that was never entered
abbrev pub trade_at : List Trade → ℕ → Trade
trade_at rows t = slice_index_or rows t unentered_trade

abbrev pub state_at : List Trade → ℕ → State
state_at rows t = (trade_at rows t).state

abbrev pub terms_at : List Trade → ℕ → Terms
terms_at rows t = (trade_at rows t).terms

-- the table with row t replaced by this trade; past the table, the table as it was
abbrev pub rows_with : List Trade → ℕ → Trade → List Trade
rows_with rows t trade = if nat_le TRADES t then rows else slice_set rows t trade

-- what replacing row t answers
abbrev pub put_answer : ℕ → Result (Unit {0}) Refusal
put_answer t = if nat_le TRADES t then Err (numbered 30) else Ok tt

-- the trade with this number, if an instruction of kind k may start from its state; else why not
abbrev pub startable_trade : Act → Refusal → List Trade → ℕ → Result Trade Refusal
startable_trade k r rows t =
    if nat_le TRADES t then Err (numbered 30)
    else if not (may_start k (state_at rows t)) then Err r
    else Ok (trade_at rows t)

-- the table with row t replaced, if there is a trade to replace it by
abbrev pub rows_with_any : List Trade → ℕ → Option Trade → List Trade
rows_with_any rows t (Some trade) = rows_with rows t trade
rows_with_any rows t None = rows

-- the table after an instruction of kind k on the trade that it names
abbrev pub rows_after : Act → Instruction → List Trade → List Trade
rows_after k x rows = rows_with_any rows x.trade (next_trade k x (trade_at rows x.trade))

-- the answer to the question of a trade's state, by number, where f has the states
abbrev pub state_question : (ℕ → State) → ℕ → Result State Refusal
state_question f t = if nat_le TRADES t then Err (numbered 30) else Ok (f t)
