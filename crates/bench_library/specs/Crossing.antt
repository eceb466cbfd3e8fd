-- The rows that cross, and what each stands for.
use Rattle.std.specs.Prelude.{ℕ, None, Some, Ok, Err, Option, Result}
use Rattle.refusals.specs.declared.Fault.{Fault}
use Rattle.refusals.specs.declared.Refusal.{Refusal}
use Rattle.refusals.specs.declared.Place.{Place}
use Rattle.refusals.specs.declared.Place.TheVariants.{Device, Book, Trades, Journal, Engine, Script}
use Rattle.refusals.specs.Numbers.{number_of, place_of}
use Rattle.refusals.specs.Faults.{plain}
use Rattle.book.specs.declared.Holding.{Holding}
use Rattle.instruction.specs.declared.Instruction.{Instruction}
use Rattle.engine.specs.declared.slip.Contents.{Contents}
use Rattle.bench_library.specs.declared.rows.TheConstants.{NONE}
use Rattle.bench_library.specs.declared.rows.Fields.{Fields}
use Rattle.bench_library.specs.declared.rows.AnswerRow.{AnswerRow}

-- each field is the field of its name
abbrev pub instruction_of : Fields → Instruction
instruction_of f = record {
  kind = f.kind;
  account = f.account;
  counterparty = f.counterparty;
  item = f.item;
  currency = f.currency;
  trade = f.trade;
  quantity = f.quantity;
  amount = f.amount;
}

abbrev pub fields_of : Instruction → Fields
fields_of x = record {
  kind = x.kind;
  account = x.account;
  counterparty = x.counterparty;
  item = x.item;
  currency = x.currency;
  trade = x.trade;
  quantity = x.quantity;
  amount = x.amount;
}

-- a number that may be missing
abbrev pub or_none : Option ℕ → ℕ
or_none None = NONE
or_none (Some n) = n

abbrev pub rule_number : Option Refusal → ℕ
rule_number None = 0
rule_number (Some r) = number_of r

abbrev pub place_number : Place → ℕ
place_number Device = 0
place_number Book = 1
place_number Trades = 2
place_number Journal = 3
place_number Engine = 4
place_number Script = 5

abbrev pub no_fields : Fields
no_fields = record {
  kind = 0;
  account = 0;
  counterparty = 0;
  item = 0;
  currency = 0;
  trade = 0;
  quantity = 0;
  amount = 0;
}

-- a number, and nothing else
abbrev pub number_row : ℕ → AnswerRow
number_row n = record {
  number = n;
  place = 0;
  rule = 0;
  in_hand = 0;
  block = or_none None;
  entry = or_none None;
  trade = or_none None;
  first = 0;
  second = 0;
  hand = no_fields;
}

-- two values, of a call that was accepted
abbrev pub values_row : ℕ → ℕ → AnswerRow
values_row a b = record {
  number = 0;
  place = 0;
  rule = 0;
  in_hand = 0;
  block = or_none None;
  entry = or_none None;
  trade = or_none None;
  first = a;
  second = b;
  hand = no_fields;
}

-- a fault's number and place, the rules' own number, and the block, entry and trade that it names
abbrev pub fault_row : Fault → AnswerRow
fault_row f = record {
  number = number_of f.refusal;
  place = place_number (place_of f.refusal);
  rule = rule_number f.rule;
  in_hand = 0;
  block = or_none f.block;
  entry = or_none f.entry;
  trade = or_none f.trade;
  first = 0;
  second = 0;
  hand = no_fields;
}

abbrev pub answer_row : Result (Unit {0}) Fault → AnswerRow
answer_row (Ok u) = number_row 0
answer_row (Err f) = fault_row f

abbrev pub ruling_row : Result (Unit {0}) Refusal → AnswerRow
ruling_row (Ok u) = number_row 0
ruling_row (Err r) = fault_row (plain r)

abbrev pub value_row : Result ℕ Refusal → AnswerRow
value_row (Ok n) = values_row n 0
value_row (Err r) = fault_row (plain r)

abbrev pub holding_row : Result Holding Refusal → AnswerRow
holding_row (Ok h) = values_row h.free h.blocked
holding_row (Err r) = fault_row (plain r)

-- a row with an instruction in hand, if there is one
abbrev pub with_hand : AnswerRow → Option Instruction → AnswerRow
with_hand row None = row
with_hand row (Some x) = record {
  number = row.number;
  place = row.place;
  rule = row.rule;
  in_hand = 1;
  block = row.block;
  entry = row.entry;
  trade = row.trade;
  first = row.first;
  second = row.second;
  hand = fields_of x;
}

-- what a slip holds: 1 and how many entries if it is known, and what is in hand
abbrev pub slip_row : Option Contents → AnswerRow
slip_row None = values_row 0 0
slip_row (Some c) = with_hand (values_row 1 c.entries) c.hand
