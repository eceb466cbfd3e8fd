-- An instruction as bytes, both ways.
use Rattle.std.specs.Prelude.{◌≡◌, ℕ, ◌+◌, ◌/◌, ◌%◌, ◌^◌, ◌<◌, Bool, if◌then◌else◌, ◌&&◌, List, ◌∷◌, ◌++◌, length, Ok, Err, Result, ◌==◌, slice_index, slice_index_or}
use Rattle.little_endian.specs.Little.{le_number, le_bytes, bytes_from}
use Rattle.refusals.specs.declared.Refusal.{Refusal}
use Rattle.refusals.specs.Numbers.{numbered, number_of}
use Rattle.instruction.specs.declared.TheConstants.{INSTRUCTION_SIZE}
use Rattle.instruction.specs.declared.Kind.{Kind}
use Rattle.instruction.specs.declared.Instruction.{Instruction}
use Rattle.instruction.specs.Kinds.{code_of}
use Rattle.instruction.specs.declared.Field.{Field}
use Rattle.instruction.specs.declared.Field.TheVariants.{Account, Counterparty, Item, Currency, Trade, Quantity, Amount}
use Rattle.instruction.specs.Fields.{offset_of, width_of}

-- an instruction of a kind that names a trade, with 0 in each other field
abbrev pub on_trade : Kind → ℕ → Instruction
on_trade k t = record {
  kind = code_of k;
  account = 0;
  counterparty = 0;
  item = 0;
  currency = 0;
  trade = t;
  quantity = 0;
  amount = 0;
}

-- an instruction of a kind with 0 in each other field
abbrev pub of_kind : Kind → Instruction
of_kind k = on_trade k 0

-- byte 0 the kind, byte 1 zero, then the account, the counterparty, the item and the currency,
-- bytes 10 and 11 zero, then the trade, the quantity and the amount
abbrev pub bytes_of : Instruction → List ℕ
bytes_of i =
    i.kind ∷ 0 ∷ (le_bytes (width_of Account) i.account
    ++ (le_bytes (width_of Counterparty) i.counterparty ++ (le_bytes (width_of Item) i.item
    ++ (le_bytes (width_of Currency) i.currency ++ (0 ∷ 0 ∷ (le_bytes (width_of Trade) i.trade
    ++ (le_bytes (width_of Quantity) i.quantity ++ le_bytes (width_of Amount) i.amount)))))))

-- the number in the w bytes from place `at` on
abbrev pub number_at : ℕ → ℕ → List ℕ → ℕ
number_at at w bs = le_number (bytes_from at w bs)

-- the number in the bytes of a field
abbrev pub field_in : Field → List ℕ → ℕ
field_in f bs = number_at (offset_of f) (width_of f) bs

-- the instruction that the bytes hold
abbrev pub fields_in : List ℕ → Instruction
fields_in bs = record {
  kind = slice_index bs 0;
  account = field_in Account bs;
  counterparty = field_in Counterparty bs;
  item = field_in Item bs;
  currency = field_in Currency bs;
  trade = field_in Trade bs;
  quantity = field_in Quantity bs;
  amount = field_in Amount bs;
}

-- the bytes that no field has are 0
abbrev pub unused_zero : List ℕ → Bool
unused_zero bs = slice_index bs 1 == 0 && (slice_index bs 10 == 0 && slice_index bs 11 == 0)

-- what is answered to bytes: the instruction that they hold, or 46
abbrev pub instruction_in : List ℕ → Result Instruction Refusal
instruction_in bs =
    if length bs == INSTRUCTION_SIZE && unused_zero bs then Ok (fields_in bs) else Err (numbered 46)

-- the bytes that are instructions: so many, with those at 1, 10 and 11 zero
pub record IsInstruction (bs : List ℕ) : Type 0 where
  pub long : length bs ≡ INSTRUCTION_SIZE
  pub one : slice_index_or bs 1 0 ≡ 0
  pub ten : slice_index_or bs 10 0 ≡ 0
  pub eleven : slice_index_or bs 11 0 ≡ 0

-- the number n lies in the w bytes from place `at` on, the lowest byte first
abbrev pub LiesAt : List ℕ → ℕ → ℕ → ℕ → Type 0
LiesAt bs at w n = (k : ℕ) → k < w → slice_index_or bs (at + k) 0 ≡ (n / (2 ^ 8) ^ k) % 2 ^ 8

-- The layout, place by place: the law above `bytes_of`, which shares no place or width with it.
pub record IsLaidOut (bs : List ℕ) (i : Instruction) : Type 0 where
  pub whole : IsInstruction bs
  pub kind : slice_index_or bs 0 0 ≡ i.kind
  pub account : LiesAt bs 2 2 i.account
  pub counterparty : LiesAt bs 4 2 i.counterparty
  pub item : LiesAt bs 6 2 i.item
  pub currency : LiesAt bs 8 2 i.currency
  pub trade : LiesAt bs 12 4 i.trade
  pub quantity : LiesAt bs 16 8 i.quantity
  pub amount : LiesAt bs 24 8 i.amount

-- what `from_bytes` answers: the one instruction that has these bytes, or that there is none
abbrev pub Reads : List ℕ → Result Instruction Refusal → Type 0
Reads bs (Ok i) = IsLaidOut bs i × (bytes_of i ≡ bs)
Reads bs (Err r) = (number_of r ≡ 46) × (IsInstruction bs → ⊥)

-- each field fits its type, as in every instruction of the code
pub record IsEncodable (i : Instruction) : Type 0 where
  pub kind : i.kind < 2 ^ 8
  pub account : i.account < 2 ^ 16
  pub counterparty : i.counterparty < 2 ^ 16
  pub item : i.item < 2 ^ 16
  pub currency : i.currency < 2 ^ 16
  pub trade : i.trade < 2 ^ 32
  pub quantity : i.quantity < 2 ^ 64
  pub amount : i.amount < 2 ^ 64
