-- Faults, by what they concern.
use Rattle.std.specs.Prelude.{ℕ, Some, None}
use Rattle.refusals.specs.Numbers.{numbered}
use Rattle.refusals.specs.declared.Refusal.{Refusal}
use Rattle.refusals.specs.declared.Fault.{Fault}

-- a refusal that concerns no block, entry or trade
abbrev pub plain : Refusal → Fault
plain r = record { refusal = r; block = None; entry = None; trade = None; rule = None }

-- a device's refusal of a call that names a block
abbrev pub at_block : Refusal → ℕ → Fault
at_block r b = record { refusal = r; block = Some b; entry = None; trade = None; rule = None }

-- the same two, by the refusal's number
abbrev pub fault : ℕ → Fault
fault n = plain (numbered n)

abbrev pub fault_at : ℕ → ℕ → Fault
fault_at n b = at_block (numbered n) b

-- a fault met within an entry of a journal
abbrev pub in_entry : ℕ → Fault → Fault
in_entry k f = record {
  refusal = f.refusal;
  block = f.block;
  entry = Some k;
  trade = f.trade;
  rule = f.rule;
}

-- a fault of an instruction that names a trade
abbrev pub of_trade : ℕ → Fault → Fault
of_trade t f = record {
  refusal = f.refusal;
  block = f.block;
  entry = f.entry;
  trade = Some t;
  rule = f.rule;
}

-- the rules refuse the record of entry k, by the fault f
abbrev pub of_record : ℕ → Fault → Fault
of_record k f =
    record {
      refusal = numbered 47;
      block = None;
      entry = Some k;
      trade = f.trade;
      rule = Some f.refusal;
    }
