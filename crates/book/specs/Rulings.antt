-- A book's checks in their order, and what each call answers and leaves.
use Rattle.refusals.specs.Answers.{if_ok}
use Rattle.std.specs.Prelude.{ℕ, ◌+◌, Bool, if◌then◌else◌, ◌||◌, List, [], ◌∷◌, Ok, Err, Result, ◌==◌, nat_le, nat_lt}
use Rattle.refusals.specs.declared.Refusal.{Refusal}
use Rattle.refusals.specs.Numbers.{numbered}
use Rattle.book.specs.declared.TheConstants.{ACCOUNTS}
use Rattle.book.specs.declared.Holding.{Holding}
use Rattle.book.specs.Holdings.{Holdings, BookKind, limit, total, Deed, no_change, crediting, blocking, releasing, moving, apply}

-- whether a check fails, and the refusal if it does
pub record Check : Type 0 where
  pub fails : Bool
  pub refusal : Refusal

-- the same by the refusal's number
abbrev pub ◌refuses◌ : Bool → ℕ → Check
b refuses n = record { fails = b; refusal = numbered n }

infix 69 ◌refuses◌
-- the answer of checks in order: the first that fails refuses
abbrev pub first_refusal : List Check → Result (Unit {0}) Refusal
first_refusal [] = Ok tt
first_refusal (c ∷ cs) = if c.fails then Err c.refusal else first_refusal cs

module _ (k : BookKind) (b : Holdings) where
  -- the checks of each deed
  abbrev pub checks : Deed → List Check
  checks no_change = []
  checks (crediting A I q) =
      nat_le ACCOUNTS A refuses 21 ∷ nat_le k.items I refuses 22 ∷ (q == 0) refuses 23
      ∷ nat_lt (limit k b I) (total b I + q) refuses 24 ∷ []
  checks (blocking A I q) =
      nat_le ACCOUNTS A refuses 21 ∷ nat_le k.items I refuses 22 ∷ (q == 0) refuses 23
      ∷ nat_lt (b.free A I) q refuses 25 ∷ []
  checks (releasing A I q) =
      nat_le ACCOUNTS A refuses 21 ∷ nat_le k.items I refuses 22 ∷ (q == 0) refuses 23
      ∷ nat_lt (b.blocked A I) q refuses 26 ∷ []
  checks (moving A B I q) =
      (nat_le ACCOUNTS A || nat_le ACCOUNTS B) refuses 21 ∷ nat_le k.items I refuses 22
      ∷ (q == 0) refuses 23 ∷ nat_lt (b.blocked A I) q refuses 26 ∷ []

  -- the answer to a deed
  abbrev pub ruling : Deed → Result (Unit {0}) Refusal
  ruling w = first_refusal (checks w)

-- what a call leaves: the deed done where it is accepted, else the holdings as they were
abbrev pub outcome : BookKind → Holdings → Deed → Holdings
outcome k b w = if_ok (ruling k b w) (apply b w) b

-- the answer to taking q of an amount n: a quantity of 0 is refused, and more than n as too much
abbrev pub cover_answer : ℕ → ℕ → Refusal → Result (Unit {0}) Refusal
cover_answer n q short =
    if q == 0 then Err (numbered 23) else if nat_lt n q then Err short else Ok tt

-- the answer to a question of an account and an item: f of them where the book has both
abbrev pub amount_answer : {X : Type 0} → BookKind → (ℕ → ℕ → X) → ℕ → ℕ → Result X Refusal
amount_answer k f a i =
    if nat_le ACCOUNTS a then Err (numbered 21) else
    if nat_le k.items i then Err (numbered 22) else
    Ok (f a i)

-- whether the book has the account and the item
abbrev pub place_answer : BookKind → ℕ → ℕ → Result (Unit {0}) Refusal
place_answer k a i = amount_answer k (λ a i. tt) a i

-- free and blocked of an account and an item
abbrev pub holding_of : Holdings → ℕ → ℕ → Holding
holding_of b a i = record { free = b.free a i; blocked = b.blocked a i }

-- free and blocked of nothing
abbrev pub no_holding : Holding
no_holding = record { free = 0; blocked = 0 }

-- the answer to a question of an item's total
abbrev pub total_answer : BookKind → Holdings → ℕ → Result ℕ Refusal
total_answer k b i = if nat_le k.items i then Err (numbered 22) else Ok (total b i)
