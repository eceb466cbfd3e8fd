-- What follows where an instruction is accepted.
use Rattle.std.proofs.Common.{◌≡◌, ℕ, ◌<◌, Bool, true, false, not, T, eqb, List, [], ◌∷◌, Some, None, Ok, sym, refl, arith}
use Rattle.std.proofs.lemmas.Bool.{leb-false}
use Rattle.instruction.specs.declared.Kind.TheVariants.{Issue, PayIn, Enter, Earmark, Fund, Settle, Free}
use Rattle.instruction.specs.declared.Instruction.{Instruction}
use Rattle.instruction.specs.Kinds.{code_of, kind_at}
use Rattle.book.specs.Rulings.{Check, first_refusal}
use Rattle.book.proofs.Accepted.{Clear, clear}
use Rattle.rulebook.specs.declared.State.{State}
use Rattle.rulebook.specs.declared.State.TheVariants.{Unentered, Entered}
use Rattle.rulebook.specs.declared.Terms.{Terms}
use Rattle.rulebook.specs.Table.{Act, may_start}
use Rattle.rulebook.specs.Terms.{Side, securities, cash}
use Rattle.rulebook.specs.Rules.{Rulebook, Standing, has_blocked, all_checks, names_trade, is_enter}
use Rattle.rulebook.proofs.Replay.{is_settled}

pub passes : (cs : List Check) → Clear cs → first_refusal cs ≡ Ok tt
passes [] c = refl
passes (c ∷ cs) e = rw e.0 (passes cs e.1)

module _ (h : Rulebook) (m : Terms) (s : Standing) (x : Instruction) where
  pub cleared : (k : Act) (o : State) → first_refusal (all_checks h k o m s x) ≡ Ok tt → Clear (all_checks h k o m s x)
  cleared k o e = clear (all_checks h k o m s x) (sym e)

not-false : (b : Bool) → not b ≡ false → b ≡ true
not-false true e = refl
not-false false e = sym e

-- an accepted instruction on a trade: there is a trade with this number, and its state is one to
-- start from
pub record Right (k : Act) (o : State) (x : Instruction) : Type 0 where
  pub low : x.trade < 128
  pub from : may_start k o ≡ true

-- a kind of instruction that names a trade
abbrev pub IsOfTrade : Act → Type 0
IsOfTrade k = T (names_trade k)

pub right : (h : Rulebook) (k : Act) (o : State) (m : Terms) (s : Standing) (x : Instruction) → IsOfTrade k
    → first_refusal (all_checks h k o m s x) ≡ Ok tt → Right k o x
right h (Some Issue) o m s x t e = absurd t
right h (Some PayIn) o m s x t e = absurd t
right h None o m s x t e = absurd t
right h k o m s x t e = let c = cleared h m s x k o
    e in record { low = leb-false _ _ c.1.1.0; from = not-false _ c.1.1.1.0 }

-- in this state a trade has nothing blocked and is not settled; an Enter starts from such a state
pub record Idle (d : Side) (o : State) : Type 0 where
  pub none-blocked : has_blocked d o ≡ false
  pub unsettled : is_settled o ≡ false

pub enter-idle : (d : Side) (o : State) → may_start (Some Enter) o ≡ true → Idle d o
enter-idle d o e = record { none-blocked = grind arith; unsettled = grind arith }

pub entered-idle : (d : Side) → Idle d Entered
entered-idle securities = record { none-blocked = refl; unsettled = refl }
entered-idle cash = record { none-blocked = refl; unsettled = refl }

-- an Earmark starts where nothing is blocked, a Fund where securities are, a Settle where both are
pub earmark-idle : (d : Side) (o : State) → may_start (Some Earmark) o ≡ true → Idle d o
earmark-idle d o e = record { none-blocked = grind arith; unsettled = grind arith }

pub fund-from : (o : State) → may_start (Some Fund) o ≡ true
    → (has_blocked securities o ≡ true) × (has_blocked cash o ≡ false) × (is_settled o ≡ false)
fund-from o e = (grind arith, grind arith, grind arith)

pub settle-from : (d : Side) (o : State) → may_start (Some Settle) o ≡ true
    → (has_blocked d o ≡ true) × (is_settled o ≡ false)
settle-from d o e = (grind arith, grind arith)

pub free-from : (o : State) → may_start (Some Free) o ≡ true → is_settled o ≡ false
free-from o e = grind arith

-- no kind but Enter starts from an unentered trade
pub was-entered : (k : Act) (o : State) → is_enter k ≡ false → may_start k o ≡ true → o ≡ Unentered → ⊥
was-entered k o e w z = grind arith

-- a kind byte is an Enter's where it is the code of Enter
pub enter-code : (n : ℕ) → is_enter (kind_at n) ≡ eqb n (code_of Enter)
enter-code n = grind arith
