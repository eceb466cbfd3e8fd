-- That an instruction has no stray field, by the table and without it.
use Rattle.std.proofs.Common.{◌≡◌, ℕ, ◌<◌, ◌≤◌, ◌↔◌, Bool, true, false, not, ◌&&◌, eqb, refl, ap, ⊎_elim, arith}
use Rattle.std.specs.Prelude.{◌≢◌}
use Rattle.std.proofs.lemmas.Bool.{eqb-true, eq-eqb, cases_Bool, or_parts}
use Rattle.instruction.specs.declared.Kind.{Kind}
use Rattle.instruction.specs.declared.Kind.TheVariants.{Issue, PayIn, Enter}
use Rattle.instruction.specs.declared.Field.{Field}
use Rattle.instruction.specs.declared.Field.TheVariants.{Account, Counterparty, Item, Currency, Trade, Quantity, Amount}
use Rattle.instruction.specs.declared.Instruction.{Instruction}
use Rattle.instruction.specs.Kinds.{code_of}
use Rattle.instruction.specs.Fields.{value_of, uses, has_stray, UnusedAreZero, StrayLaw}

-- each field that the kind does not use is 0
abbrev pub OthersZero : Kind → Instruction → Type 0
OthersZero k i = (f : Field) → uses k f ≡ false → value_of f i ≡ 0

abbrev is_stray : Kind → Instruction → Field → Bool
is_stray k i f = not (uses k f) && not (eqb (value_of f i) 0)

zero-if : (u : Bool) (n : ℕ) → (not u && not (eqb n 0)) ≡ false → u ≡ false → n ≡ 0
zero-if true n e v = absurd cc
zero-if false n e v = ⊎_elim (λ t. eqb-true n 0 t) (λ t. let w : not (eqb n 0) ≡ true = ap not t in absurd cc)
    (cases_Bool (eqb n 0))

if-zero : (u : Bool) (n : ℕ) → (u ≡ false → n ≡ 0) → (not u && not (eqb n 0)) ≡ false
if-zero true n h = refl
if-zero false n h = ap not (eq-eqb n 0 (h refl))

others-zero : (k : Kind) (i : Instruction) → has_stray k i ≡ false → OthersZero k i
others-zero k i e =
    let p = or_parts (is_stray k i Account) _ e in
    let q = or_parts (is_stray k i Counterparty) _ p.1 in
    let r = or_parts (is_stray k i Item) _ q.1 in
    let s = or_parts (is_stray k i Currency) _ r.1 in
    let t = or_parts (is_stray k i Trade) _ s.1 in
    let u = or_parts (is_stray k i Quantity) _ t.1 in
    let v = or_parts (is_stray k i Amount) _ u.1 in
    λ f. zero-if (uses k f) (value_of f i)
    (elim f as (λ f. is_stray k i f ≡ false) [
      | Account ↦ p.0
      | Counterparty ↦ q.0
      | Item ↦ r.0
      | Currency ↦ s.0
      | Trade ↦ t.0
      | Quantity ↦ u.0
      | Amount ↦
          v.0
    ])

no-stray : (k : Kind) (i : Instruction) → OthersZero k i → has_stray k i ≡ false
no-stray k i h =
    let z : (f : Field) → is_stray k i f ≡ false = λ f. if-zero (uses k f) (value_of f i) (h f) in
    rw (z Account, z Counterparty, z Item, z Currency, z Trade, z Quantity, z Amount)

-- a field is unused by the table at the kinds at which it is without the table
account-unused : (k : Kind) → (4 ≤ code_of k) ↔ (uses k Account ≡ false)
account-unused Issue = (λ l. absurd (omega arith), λ e. absurd cc)
account-unused PayIn = (λ l. absurd (omega arith), λ e. absurd cc)
account-unused Enter = (λ l. absurd (omega arith), λ e. absurd cc)
account-unused k = (λ l. refl, λ e. omega arith)

counterparty-unused : (k : Kind) → (code_of k ≢ 3) ↔ (uses k Counterparty ≡ false)
counterparty-unused Enter = (λ n. absurd (n refl), λ e. absurd cc)
counterparty-unused k = (λ n. refl, λ e. omega arith)

-- an item and a quantity
item-unused : (k : Kind) → ((code_of k ≢ 1) × (code_of k ≢ 3)) ↔ (uses k Item ≡ false)
item-unused Issue = (λ n. absurd (n.0 refl), λ e. absurd cc)
item-unused Enter = (λ n. absurd (n.1 refl), λ e. absurd cc)
item-unused k = (λ n. refl, λ e. (omega arith, omega arith))

quantity-unused : (k : Kind) → ((code_of k ≢ 1) × (code_of k ≢ 3)) ↔ (uses k Quantity ≡ false)
quantity-unused Issue = (λ n. absurd (n.0 refl), λ e. absurd cc)
quantity-unused Enter = (λ n. absurd (n.1 refl), λ e. absurd cc)
quantity-unused k = (λ n. refl, λ e. (omega arith, omega arith))

currency-unused : (k : Kind) → ((code_of k ≢ 2) × (code_of k ≢ 3)) ↔ (uses k Currency ≡ false)
currency-unused PayIn = (λ n. absurd (n.0 refl), λ e. absurd cc)
currency-unused Enter = (λ n. absurd (n.1 refl), λ e. absurd cc)
currency-unused k = (λ n. refl, λ e. (omega arith, omega arith))

amount-unused : (k : Kind) → ((code_of k ≢ 2) × (code_of k ≢ 3)) ↔ (uses k Amount ≡ false)
amount-unused PayIn = (λ n. absurd (n.0 refl), λ e. absurd cc)
amount-unused Enter = (λ n. absurd (n.1 refl), λ e. absurd cc)
amount-unused k = (λ n. refl, λ e. (omega arith, omega arith))

trade-unused : (k : Kind) → (code_of k < 3) ↔ (uses k Trade ≡ false)
trade-unused Issue = (λ l. refl, λ e. omega arith)
trade-unused PayIn = (λ l. refl, λ e. omega arith)
trade-unused k = (λ l. absurd (omega arith), λ e. absurd cc)

zeros-apart : (k : Kind) (i : Instruction) → OthersZero k i → UnusedAreZero (code_of k) i
zeros-apart k i h = record {
  account = λ l. h Account ((account-unused k).0 l);
  counterparty = λ n. h Counterparty ((counterparty-unused k).0 n);
  item = λ n m. h Item ((item-unused k).0 (n, m));
  quantity = λ n m. h Quantity ((quantity-unused k).0 (n, m));
  currency = λ n m. h Currency ((currency-unused k).0 (n, m));
  amount = λ n m. h Amount ((amount-unused k).0 (n, m));
  trade = λ l. h Trade ((trade-unused k).0 l);
}

zeros-by-table : (k : Kind) (i : Instruction) → UnusedAreZero (code_of k) i → OthersZero k i
zeros-by-table k i z Account e = z.account ((account-unused k).1 e)
zeros-by-table k i z Counterparty e = z.counterparty ((counterparty-unused k).1 e)
zeros-by-table k i z Item e = let n = (item-unused k).1 e in z.item n.0 n.1
zeros-by-table k i z Currency e = let n = (currency-unused k).1 e in z.currency n.0 n.1
zeros-by-table k i z Trade e = z.trade ((trade-unused k).1 e)
zeros-by-table k i z Quantity e = let n = (quantity-unused k).1 e in z.quantity n.0 n.1
zeros-by-table k i z Amount e = let n = (amount-unused k).1 e in z.amount n.0 n.1

pub stray_or_zero : StrayLaw
stray_or_zero k i = (λ e. zeros-apart k i (others-zero k i e), λ z. no-stray k i (zeros-by-table k i z))
