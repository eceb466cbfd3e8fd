-- The table of states has the steps of a trade, and no others.
use Rattle.std.proofs.Common.{◌≡◌, ℕ, Some, None, Option, refl, arith}
use Rattle.instruction.specs.declared.Kind.TheVariants.{Enter, Earmark, Fund, Settle, Free}
use Rattle.instruction.specs.Kinds.{kind_at}
use Rattle.rulebook.specs.declared.State.{State}
use Rattle.rulebook.specs.declared.State.TheVariants.{Unentered, Entered, Earmarked, Funded}
use Rattle.rulebook.specs.Table.{next_state, TradeSteps, enters, earmarks, funds, settles, freed-entered, freed-earmarked, freed-funded, StateTable}
use Rattle.rulebook.proofs.Bytes.{by-byte}

-- the table's answer is a step, where it leads on
abbrev Leads : Option State → State → ℕ → Type 0
Leads None o n = Unit {0}
Leads (Some p) o n = TradeSteps o n p

enter : (o : State) → Leads (next_state (Some Enter) o) o 3
enter Unentered = enters
enter o = tt

earmark : (o : State) → Leads (next_state (Some Earmark) o) o 4
earmark Entered = earmarks
earmark o = tt

fund : (o : State) → Leads (next_state (Some Fund) o) o 5
fund Earmarked = funds
fund o = tt

settle : (o : State) → Leads (next_state (Some Settle) o) o 6
settle Funded = settles
settle o = tt

free : (o : State) → Leads (next_state (Some Free) o) o 7
free Entered = freed-entered
free Earmarked = freed-earmarked
free Funded = freed-funded
free o = tt

only : (o p : State) (n : ℕ) → next_state (kind_at n) o ≡ Some p → TradeSteps o n p
only o p n e =
    rw e at (by-byte (λ k n. Leads (next_state k o) o n) tt tt (enter o) (earmark o) (fund o) (settle o) (free o)
    (λ n h. tt) n)

each : (o p : State) (n : ℕ) → TradeSteps o n p → next_state (kind_at n) o ≡ Some p
each o p n enters = refl
each o p n earmarks = refl
each o p n funds = refl
each o p n settles = refl
each o p n freed-entered = refl
each o p n freed-earmarked = refl
each o p n freed-funded = refl

pub state-table : StateTable
state-table = record {
  only = only;
  each = each;
  no-return = λ o n e. grind arith;
  settled-stays = λ p n e. grind arith;
  freed-stays = λ p n e. grind arith;
}
