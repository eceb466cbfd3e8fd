-- The terms of a trade, and its two sides: securities against cash.
use Rattle.std.specs.Prelude.{ℕ}
use Rattle.instruction.specs.declared.Instruction.{Instruction}
use Rattle.rulebook.specs.declared.Terms.{Terms}

-- the terms of a trade that was never entered
abbrev pub no_terms : Terms
no_terms = record { seller = 0; buyer = 0; item = 0; currency = 0; quantity = 0; amount = 0 }

-- the terms that an Enter states: its account is the seller, its counterparty the buyer
abbrev pub terms_of : Instruction → Terms
terms_of x = record {
  seller = x.account;
  buyer = x.counterparty;
  item = x.item;
  currency = x.currency;
  quantity = x.quantity;
  amount = x.amount;
}

-- Securities stand in the register, cash in the cash book.
pub data Side : Type 0 where
  securities cash : Side

-- the account that gives on this side, and the one that takes
abbrev pub giver : Side → Terms → ℕ
giver securities m = m.seller
giver cash m = m.buyer

abbrev pub taker : Side → Terms → ℕ
taker securities m = m.buyer
taker cash m = m.seller

-- what is given, the item or the currency, and how much of it
abbrev pub asset : Side → Terms → ℕ
asset securities m = m.item
asset cash m = m.currency

abbrev pub volume : Side → Terms → ℕ
volume securities m = m.quantity
volume cash m = m.amount
