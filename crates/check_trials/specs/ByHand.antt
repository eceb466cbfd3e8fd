-- One trade, what its seller and its buyer have when it is settled, and answers to instructions.
-- Every number was worked out by hand from the rules; none was taken from the program.
use Rattle.std.specs.Prelude.{◌≡◌, ℕ, List, [], ◌∷◌, ◌++◌, fold, map}
use Rattle.refusals.specs.Numbers.{answer_number}
use Rattle.instruction.specs.declared.Instruction.{Instruction}
use Rattle.balances.specs.Rows.{balances_kind}
use Rattle.rulebook.specs.Terms.{securities, cash}
use Rattle.rulebook.specs.Rules.{Rulebook, Standing, empty, answer, step}
use Rattle.ledger.specs.View.{rulebook_of}
use Rattle.check_trials.specs.declared.Settlement.{Settlement}

-- an instruction by its kind, account, counterparty, item, currency, trade, quantity and amount
abbrev pub of_fields : ℕ → ℕ → ℕ → ℕ → ℕ → ℕ → ℕ → ℕ → Instruction
of_fields k a b i c t q m = record {
  kind = k;
  account = a;
  counterparty = b;
  item = i;
  currency = c;
  trade = t;
  quantity = q;
  amount = m;
}

-- balances as the register and as the cash book
abbrev pub two_balances : Rulebook
two_balances = rulebook_of balances_kind balances_kind

-- Account 1 is issued 100 of item 3, and 5,000 of currency 4 are paid in for account 2. In trade 7
-- the first sells all its 100 to the second for 2,000. The trade is earmarked, funded and settled.
abbrev pub trade_7 : List Instruction
trade_7 =
    of_fields 1 1 0 3 0 0 100 0 ∷ of_fields 2 2 0 0 4 0 0 5000 ∷ of_fields 3 1 2 3 4 7 100 2000
    ∷ of_fields 4 0 0 0 0 7 0 0 ∷ of_fields 5 0 0 0 0 7 0 0 ∷ of_fields 6 0 0 0 0 7 0 0 ∷ []

-- where instructions lead, one after another, over fresh balances
abbrev pub standing_after : List Instruction → Standing
standing_after xs = fold (step two_balances) empty xs

-- By hand: of the item the seller has none and the buyer 100; of the currency the seller has 2,000
-- and the buyer the other 3,000. Nothing is blocked any more.
pub record HasEightAmounts (s : Standing) : Type 0 where
  pub seller-item-free : (s.book securities).free 1 3 ≡ 0
  pub seller-item-blocked : (s.book securities).blocked 1 3 ≡ 0
  pub buyer-item-free : (s.book securities).free 2 3 ≡ 100
  pub buyer-item-blocked : (s.book securities).blocked 2 3 ≡ 0
  pub seller-currency-free : (s.book cash).free 1 4 ≡ 2000
  pub seller-currency-blocked : (s.book cash).blocked 1 4 ≡ 0
  pub buyer-currency-free : (s.book cash).free 2 4 ≡ 3000
  pub buyer-currency-blocked : (s.book cash).blocked 2 4 ≡ 0

-- by hand: the same eight in the form in which the code answers them
abbrev pub eight_amounts : Settlement
eight_amounts = record {
  seller_item = record { free = 0; blocked = 0 };
  buyer_item = record { free = 100; blocked = 0 };
  seller_currency = record { free = 2000; blocked = 0 };
  buyer_currency = record { free = 3000; blocked = 0 };
}

-- Then account 2 sells to account 1: in trade 8, which is entered, 51 of item 3 for 1 of currency
-- 4; in trade 9, which is earmarked, 50 of it for 2,001. So 50 of account 2's 100 stay free.
abbrev pub three_trades : List Instruction
three_trades =
    trade_7
    ++ (of_fields 3 2 1 3 4 8 51 1 ∷ of_fields 3 2 1 3 4 9 50 2001
    ∷ of_fields 4 0 0 0 0 9 0 0 ∷ [])

-- after those, each of these instructions is answered this number
abbrev pub AreAnswered : ℕ → List Instruction → Type 0
AreAnswered n xs =
    map (λ x. answer_number (answer two_balances (standing_after three_trades) x)) xs
    ≡ map (λ x. n) xs

-- Each row by hand. Where several checks fail, the first in their order answers.
pub record AnswersByHand : Type 0 where
  -- by hand: the kind is not 1 to 7, whatever the fields are
  pub unknown-kind : AreAnswered 32 (of_fields 0 0 0 0 0 0 0 0 ∷ of_fields 8 1 1 1 1 1 1 1 ∷ [])
  -- by hand: one field is filled that the kind has no use for
  pub stray-field : AreAnswered 31 (
      of_fields 1 1 1 3 0 0 1 0 ∷ of_fields 1 1 0 3 1 0 1 0 ∷ of_fields 1 1 0 3 0 1 1 0
      ∷ of_fields 1 1 0 3 0 0 1 1 ∷ of_fields 2 1 1 0 4 0 0 1 ∷ of_fields 2 1 0 1 4 0 0 1
      ∷ of_fields 2 1 0 0 4 1 0 1 ∷ of_fields 2 1 0 0 4 0 1 1 ∷ of_fields 4 1 0 0 0 8 0 0
      ∷ of_fields 5 0 1 0 0 9 0 0 ∷ of_fields 6 0 0 1 0 9 0 0 ∷ of_fields 7 0 0 0 1 9 0 0
      ∷ of_fields 7 0 0 0 0 9 1 0 ∷ of_fields 7 0 0 0 0 9 0 1 ∷ [])
  -- by hand: the last trade is 127
  pub no-trade : AreAnswered 30 (
      of_fields 3 1 1 3 4 128 1 1 ∷ of_fields 4 0 0 0 0 128 0 0 ∷ of_fields 5 0 0 0 0 128 0 0
      ∷ of_fields 6 0 0 0 0 128 0 0 ∷ of_fields 7 0 0 0 0 128 0 0 ∷ [])
  -- by hand: trades 7 and 9 were entered
  pub ever-entered : AreAnswered 34 (of_fields 3 1 1 3 4 7 1 1 ∷ of_fields 3 1 1 3 4 9 1 1 ∷ [])
  -- by hand: one account sells and buys, even if there is no such account or item
  pub same-parties : AreAnswered 33 (of_fields 3 70 70 16 4 127 1 1 ∷ [])
  -- by hand: the last account is 63
  pub no-account : AreAnswered 21 (
      of_fields 1 64 0 16 0 0 0 0 ∷ of_fields 2 64 0 0 16 0 0 0 ∷ of_fields 3 64 1 16 4 127 1 1
      ∷ of_fields 3 1 64 16 4 127 1 1 ∷ [])
  -- by hand: the last item and the last currency of balances are 15
  pub no-item : AreAnswered 22 (
      of_fields 1 63 0 16 0 0 0 0 ∷ of_fields 2 63 0 0 16 0 0 0 ∷ of_fields 3 1 63 16 4 127 0 1
      ∷ of_fields 3 1 63 15 16 127 0 1 ∷ [])
  -- by hand: a quantity or an amount is 0
  pub no-quantity : AreAnswered 23 (
      of_fields 1 63 0 3 0 0 0 0 ∷ of_fields 2 63 0 0 4 0 0 0 ∷ of_fields 3 1 63 15 15 127 0 1
      ∷ of_fields 3 1 63 15 15 127 1 0 ∷ [])
  -- by hand: 100 and 5,000 are there, so these are 1 more than the ceiling over all accounts
  pub over-ceiling : AreAnswered 24 (
      of_fields 1 63 0 3 0 0 999999999901 0 ∷ of_fields 2 63 0 0 4 0 0 999999995001 ∷ [])
  -- by hand: 1 more than is free, of the item in trade 8 and of the currency in trade 9
  pub over-free : AreAnswered 25 (of_fields 4 0 0 0 0 8 0 0 ∷ of_fields 5 0 0 0 0 9 0 0 ∷ [])
  -- by hand: 7 is settled, 8 entered, 9 earmarked, and 10 was never entered
  pub wrong-state : AreAnswered 35 (
      of_fields 4 0 0 0 0 7 0 0 ∷ of_fields 4 0 0 0 0 9 0 0 ∷ of_fields 4 0 0 0 0 10 0 0
      ∷ of_fields 5 0 0 0 0 7 0 0 ∷ of_fields 5 0 0 0 0 8 0 0 ∷ of_fields 5 0 0 0 0 10 0 0
      ∷ of_fields 6 0 0 0 0 7 0 0 ∷ of_fields 6 0 0 0 0 8 0 0 ∷ of_fields 6 0 0 0 0 9 0 0
      ∷ of_fields 6 0 0 0 0 10 0 0 ∷ of_fields 7 0 0 0 0 7 0 0 ∷ of_fields 7 0 0 0 0 10 0 0 ∷ [])
  -- by hand: credits up to the ceiling; a new trade; trades 8 and 9 freed
  pub accepted : AreAnswered 0 (
      of_fields 1 63 0 3 0 0 999999999900 0 ∷ of_fields 2 63 0 0 4 0 0 999999995000
      ∷ of_fields 3 1 63 15 15 127 1 1 ∷ of_fields 7 0 0 0 0 8 0 0
      ∷ of_fields 7 0 0 0 0 9 0 0 ∷ [])
