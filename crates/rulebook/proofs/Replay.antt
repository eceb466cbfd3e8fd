-- A list of instructions read from left to right, and its sums by the words of the rules.
use Rattle.std.proofs.Common.{ℕ, Bool, List, fold, ◌==◌}
use Rattle.instruction.specs.declared.Instruction.{Instruction}
use Rattle.instruction.specs.Kinds.{kind_at}
use Rattle.book.specs.Sums.{sum_below, amount_if, is_place}
use Rattle.rulebook.specs.declared.State.{State}
use Rattle.rulebook.specs.declared.State.TheVariants.{Unentered, Settled}
use Rattle.rulebook.specs.declared.Terms.{Terms}
use Rattle.rulebook.specs.Table.{rank, state_after}
use Rattle.rulebook.specs.Terms.{no_terms, Side, giver, taker, asset, volume}
use Rattle.rulebook.specs.Rules.{states_after, is_enter, terms_after, has_blocked}

abbrev pub read_state : (ℕ → State) → Instruction → ℕ → State
read_state f x = states_after (state_after (kind_at x.kind)) f x.trade

abbrev pub state_in : List Instruction → ℕ → State
state_in xs = fold read_state (λ t. Unentered) xs

abbrev pub read_terms : (ℕ → Terms) → Instruction → ℕ → Terms
read_terms f x = terms_after (is_enter (kind_at x.kind)) f x

abbrev pub terms_in : List Instruction → ℕ → Terms
terms_in xs = fold read_terms (λ t. no_terms) xs

abbrev pub is_settled : State → Bool
is_settled o = rank o == rank Settled

-- what a trade in a state and on terms adds to the sums of account a and item i: given, taken and
-- blocked
abbrev pub give_of : Side → ℕ → ℕ → State → Terms → ℕ
give_of d a i s m = amount_if (is_settled s) (amount_if (is_place (giver d m) (asset d m) a i) (volume d m))

abbrev pub take_of : Side → ℕ → ℕ → State → Terms → ℕ
take_of d a i s m = amount_if (is_settled s) (amount_if (is_place (taker d m) (asset d m) a i) (volume d m))

abbrev pub hold_of : Side → ℕ → ℕ → State → Terms → ℕ
hold_of d a i s m = amount_if (has_blocked d s) (amount_if (is_place (giver d m) (asset d m) a i) (volume d m))

-- over all trades
abbrev pub over : (State → Terms → ℕ) → (ℕ → State) → (ℕ → Terms) → ℕ
over c st tm = sum_below 128 (λ t. c (st t) (tm t))
