-- What a list of instructions says of a trade, by its last instruction and its last Enter.
use Rattle.std.specs.Prelude.{◌≡◌, ℕ, ◌≤◌, ◌⊎◌, List, ◌∷◌, ◌++◌}
use Rattle.std.specs.List.{AllByRecursion}
use Rattle.instruction.specs.declared.Instruction.{Instruction}
use Rattle.rulebook.specs.declared.State.{State}
use Rattle.rulebook.specs.declared.State.TheVariants.{Entered, Earmarked, Funded, Settled, Freed}
use Rattle.rulebook.specs.declared.Terms.{Terms}

-- x is an instruction on trade t: of kind 3 to 7, and with this number
pub record IsOn (t : ℕ) (x : Instruction) : Type 0 where
  pub from : 3 ≤ x.kind
  pub to : x.kind ≤ 7
  pub trade : x.trade ≡ t

-- x is an Enter of trade t
pub record IsEnterOn (t : ℕ) (x : Instruction) : Type 0 where
  pub kind : x.kind ≡ 3
  pub trade : x.trade ≡ t

-- no instruction of the list has the property P
abbrev pub HasNo : (Instruction → Type 0) → List Instruction → Type 0
HasNo P xs = AllByRecursion (λ x. P x → ⊥) xs

-- x is the last instruction of the list that has the property P
pub record IsLast (P : Instruction → Type 0) (x : Instruction) (xs : List Instruction) : Type 0
  where
    pub before : List Instruction
    pub later : List Instruction
    pub place : xs ≡ before ++ (x ∷ later)
    pub holds : P x
    pub never-later : HasNo P later

-- o is the state in which an instruction with this kind byte leaves a trade
pub record IsStateAfter (kind : ℕ) (o : State) : Type 0 where
  pub entered : kind ≡ 3 → o ≡ Entered
  pub earmarked : kind ≡ 4 → o ≡ Earmarked
  pub funded : kind ≡ 5 → o ≡ Funded
  pub settled : kind ≡ 6 → o ≡ Settled
  pub freed : kind ≡ 7 → o ≡ Freed

-- the terms m are those that the Enter x states: its account sells, its counterparty buys
pub record StatesTerms (x : Instruction) (m : Terms) : Type 0 where
  pub seller : m.seller ≡ x.account
  pub buyer : m.buyer ≡ x.counterparty
  pub item : m.item ≡ x.item
  pub currency : m.currency ≡ x.currency
  pub quantity : m.quantity ≡ x.quantity
  pub amount : m.amount ≡ x.amount

-- in every list either no instruction has the property P, or exactly one is the last that has it
pub record HasUniqueLast (P : Instruction → Type 0) : Type 0 where
  pub some : (xs : List Instruction) → HasNo P xs ⊎ ((x : Instruction) × IsLast P x xs)
  pub one : (xs : List Instruction) (x y : Instruction) → IsLast P x xs → IsLast P y xs → x ≡ y

-- So a list never says two things of a trade's state, nor of its terms.
pub record LastsAreUnique : Type 0 where
  pub of-trade : (t : ℕ) → HasUniqueLast (IsOn t)
  pub of-enter : (t : ℕ) → HasUniqueLast (IsEnterOn t)
