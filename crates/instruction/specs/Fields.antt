-- The fields of an instruction: where each lies among its bytes, and which of them each kind uses.
use Rattle.std.specs.Prelude.{◌≡◌, ℕ, suc, ◌-◌, ◌^◌, ◌<◌, ◌≤◌, ◌↔◌, ◌≢◌, Bool, false, if◌then◌else◌, not, ◌&&◌, List, [], ◌∷◌, ◌==◌, slice_index}
use Rattle.std.specs.List.{list_any}
use Rattle.instruction.specs.declared.Kind.{Kind}
use Rattle.instruction.specs.declared.Kind.TheVariants.{Issue, PayIn, Enter, Earmark, Fund, Settle, Free}
use Rattle.instruction.specs.declared.Field.{Field}
use Rattle.instruction.specs.declared.Field.TheVariants.{Account, Counterparty, Item, Currency, Trade, Quantity, Amount}
use Rattle.instruction.specs.declared.Instruction.{Instruction}
use Rattle.instruction.specs.Kinds.{code_of}

-- in the order of the bytes
abbrev pub all_fields : List Field
all_fields = Account ∷ Counterparty ∷ Item ∷ Currency ∷ Trade ∷ Quantity ∷ Amount ∷ []

-- the place of the field's first byte
abbrev pub offset_of : Field → ℕ
offset_of Account = 2
offset_of Counterparty = 4
offset_of Item = 6
offset_of Currency = 8
offset_of Trade = 12
offset_of Quantity = 16
offset_of Amount = 24

-- how many bytes the field has
abbrev pub width_of : Field → ℕ
width_of Account = 2
width_of Counterparty = 2
width_of Item = 2
width_of Currency = 2
width_of Trade = 4
width_of Quantity = 8
width_of Amount = 8

-- the largest number that the field can have
abbrev pub most_of : Field → ℕ
most_of f = (2 ^ 8) ^ width_of f - 1

abbrev pub value_of : Field → Instruction → ℕ
value_of Account i = i.account
value_of Counterparty i = i.counterparty
value_of Item i = i.item
value_of Currency i = i.currency
value_of Trade i = i.trade
value_of Quantity i = i.quantity
value_of Amount i = i.amount

-- The table: the fields that a kind uses, in the order of the bytes
abbrev pub fields_of : Kind → List Field
fields_of Issue = Account ∷ Item ∷ Quantity ∷ []
fields_of PayIn = Account ∷ Currency ∷ Amount ∷ []
fields_of Enter = all_fields
fields_of Earmark = Trade ∷ []
fields_of Fund = Trade ∷ []
fields_of Settle = Trade ∷ []
fields_of Free = Trade ∷ []

-- two fields that begin at the same byte are the same
abbrev pub is_same : Field → Field → Bool
is_same f g = offset_of f == offset_of g

abbrev pub uses : Kind → Field → Bool
uses k f = list_any (is_same f) (fields_of k)

-- some field that the kind leaves unused is not 0
abbrev pub has_stray : Kind → Instruction → Bool
has_stray k i = list_any (λ f. not (uses k f) && not (value_of f i == 0)) all_fields

-- how many fields of the list stand before this one
abbrev pub rank_in : List Field → Field → ℕ
rank_in [] f = 0
rank_in (g ∷ gs) f = if is_same f g then 0 else suc (rank_in gs f)

-- the number for a field, of the numbers for all fields that the kind uses; 0 for any other field
abbrev pub number_for : Kind → List ℕ → Field → ℕ
number_for k ns f = if uses k f then slice_index ns (rank_in (fields_of k) f) else 0

-- the instruction of a kind with these numbers in the fields that the kind uses, and 0 elsewhere
abbrev pub instruction_with : Kind → List ℕ → Instruction
instruction_with k ns = record {
  kind = code_of k;
  account = number_for k ns Account;
  counterparty = number_for k ns Counterparty;
  item = number_for k ns Item;
  currency = number_for k ns Currency;
  trade = number_for k ns Trade;
  quantity = number_for k ns Quantity;
  amount = number_for k ns Amount;
}

-- Which fields are 0 in an instruction of a kind, by its kind byte and without the table.
pub record UnusedAreZero (code : ℕ) (i : Instruction) : Type 0 where
  -- an Issue (1), a Pay in (2) and an Enter (3) name an account, and only an Enter a second one
  pub account : 4 ≤ code → i.account ≡ 0
  pub counterparty : code ≢ 3 → i.counterparty ≡ 0
  -- an Issue and an Enter name an item and a quantity
  pub item : code ≢ 1 → code ≢ 3 → i.item ≡ 0
  pub quantity : code ≢ 1 → code ≢ 3 → i.quantity ≡ 0
  -- a Pay in and an Enter name a currency and an amount
  pub currency : code ≢ 2 → code ≢ 3 → i.currency ≡ 0
  pub amount : code ≢ 2 → code ≢ 3 → i.amount ≡ 0
  -- an Issue and a Pay in name no trade
  pub trade : code < 3 → i.trade ≡ 0

-- the law above the table: no field is stray exactly where these are 0
abbrev pub StrayLaw : Type 0
StrayLaw = (k : Kind) (i : Instruction) → (has_stray k i ≡ false) ↔ UnusedAreZero (code_of k) i
