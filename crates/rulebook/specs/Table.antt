-- The states of a trade: from which of them a kind of instruction starts, and to which it leads.
use Rattle.std.specs.Prelude.{◌≡◌, ℕ, Bool, false, if◌then◌else◌, ◌||◌, List, [], ◌∷◌, Some, None, Option, ◌==◌, ◌≢◌}
use Rattle.instruction.specs.declared.Kind.{Kind}
use Rattle.instruction.specs.declared.Kind.TheVariants.{Issue, PayIn, Enter, Earmark, Fund, Settle, Free}
use Rattle.instruction.specs.Kinds.{kind_at}
use Rattle.rulebook.specs.declared.State.{State}
use Rattle.rulebook.specs.declared.State.TheVariants.{Unentered, Entered, Earmarked, Funded, Settled, Freed}

-- what an instruction asks for: a kind, or nothing where its kind byte is unknown
abbrev pub Act : Type 0
Act = Option Kind

-- states are compared by these numbers
abbrev pub rank : State → ℕ
rank Unentered = 0
rank Entered = 1
rank Earmarked = 2
rank Funded = 3
rank Settled = 4
rank Freed = 5

abbrev pub is_among : State → List State → Bool
is_among o [] = false
is_among o (p ∷ ps) = rank o == rank p || is_among o ps

-- the states from which an instruction of each kind may start
abbrev pub states_before : Act → List State
states_before (Some Issue) = []
states_before (Some PayIn) = []
states_before (Some Enter) = Unentered ∷ []
states_before (Some Earmark) = Entered ∷ []
states_before (Some Fund) = Earmarked ∷ []
states_before (Some Settle) = Funded ∷ []
states_before (Some Free) = Entered ∷ Earmarked ∷ Funded ∷ []
states_before None = []

-- the state to which it leads; an Issue and a Pay in are about no trade
abbrev pub state_after : Act → Option State
state_after (Some Issue) = None
state_after (Some PayIn) = None
state_after (Some Enter) = Some Entered
state_after (Some Earmark) = Some Earmarked
state_after (Some Fund) = Some Funded
state_after (Some Settle) = Some Settled
state_after (Some Free) = Some Freed
state_after None = None

-- an instruction of this kind may start from this state
abbrev pub may_start : Act → State → Bool
may_start k o = is_among o (states_before k)

-- a trade's state and the kind together decide the next state
abbrev pub next_state : Act → State → Option State
next_state k o = if may_start k o then state_after k else None

-- The steps of a trade, by the kind byte and in words of their own: these, and no others.
pub data TradeSteps : State → ℕ → State → Type 0 where
  enters : TradeSteps Unentered 3 Entered
  earmarks : TradeSteps Entered 4 Earmarked
  funds : TradeSteps Earmarked 5 Funded
  settles : TradeSteps Funded 6 Settled
  freed-entered : TradeSteps Entered 7 Freed
  freed-earmarked : TradeSteps Earmarked 7 Freed
  freed-funded : TradeSteps Funded 7 Freed

-- The table has these steps, and none that leads back.
pub record StateTable : Type 0 where
  -- where the table leads on, that is one of the steps
  pub only : (o p : State) (n : ℕ) → next_state (kind_at n) o ≡ Some p → TradeSteps o n p
  -- each of the steps is in the table
  pub each : (o p : State) (n : ℕ) → TradeSteps o n p → next_state (kind_at n) o ≡ Some p
  -- no trade becomes unentered again, and a settled or a freed one stays so
  pub no-return : (o : State) (n : ℕ) → next_state (kind_at n) o ≢ Some Unentered
  pub settled-stays : (p : State) (n : ℕ) → next_state (kind_at n) Settled ≢ Some p
  pub freed-stays : (p : State) (n : ℕ) → next_state (kind_at n) Freed ≢ Some p
