-- The trials whose results are proved, a row each.
-- Every expected result was worked out by hand from the rules; none was taken from the program.
use Rattle.std.specs.Prelude.{◌≡◌, ℕ, ◌<◌, false, List, ◌∷◌, ◌++◌, replicate}
use Rattle.refusals.specs.Numbers.{answer_number}
use Rattle.instruction.specs.declared.Kind.TheVariants.{Earmark, Settle}
use Rattle.instruction.specs.Layout.{on_trade, bytes_of}
use Rattle.book.specs.declared.TheConstants.{ACCOUNTS}
use Rattle.book.specs.Holdings.{nothing, crediting, blocking, apply}
use Rattle.book.specs.Rulings.{ruling}
use Rattle.balances.specs.Rows.{balances_kind}
use Rattle.lots.specs.Owners.{lots_kind}
use Rattle.rulebook.specs.declared.TheConstants.{TRADES}
use Rattle.rulebook.specs.declared.State.TheVariants.{Earmarked}
use Rattle.rulebook.specs.Rules.{Rulebook, Standing, empty, answer}
use Rattle.journal.specs.Blocks.{zeros, mark_bytes, is_mark}
use Rattle.check_trials.specs.declared.Outcomes.{Outcomes}
use Rattle.check_trials.specs.ByHand.{of_fields, trade_7, standing_after, HasEightAmounts, eight_amounts, AnswersByHand}

-- by hand, Earmark of trade 7: the kind 4, eleven zeros, 7, nineteen zeros
abbrev pub earmark_of_trade_7 : List ℕ
earmark_of_trade_7 = 4 ∷ (replicate 11 0 ++ (7 ∷ replicate 19 0))

-- by hand, the mark of entry 0: the number 0 in four bytes, FF FF FF FF less 0 in four, then zeros
abbrev pub first_mark : List ℕ
first_mark = replicate 4 0 ++ (replicate 4 255 ++ replicate 248 0)

pub record ProvedTrials : Type 0 where
  -- by hand: in a fresh book nothing is free, so to block 1 is refused as more than is free
  pub block-of-nothing :
      (a i : ℕ) → a < ACCOUNTS → i < balances_kind.items
      → answer_number (ruling balances_kind nothing (blocking a i 1)) ≡ 25
  -- by hand: the ceiling of balances is a million million, so a credit of it is accepted
  pub credit-to-ceiling :
      (a i : ℕ) → a < ACCOUNTS → i < balances_kind.items
      → answer_number (ruling balances_kind nothing (crediting a i 1000000000000)) ≡ 0
  -- by hand: and 1 more is refused, to any account
  pub credit-past-ceiling :
      (a b i : ℕ) → a < ACCOUNTS → b < ACCOUNTS → i < balances_kind.items
      → answer_number (
      ruling balances_kind (apply nothing (crediting a i 1000000000000)) (crediting b i 1)
      ) ≡ 24
  -- by hand: there is one of each lot, so a credit of 1 is accepted, and of 2 is not
  pub credit-of-a-lot :
      (a i : ℕ) → a < ACCOUNTS → i < lots_kind.items
      → answer_number (ruling lots_kind nothing (crediting a i 1)) ≡ 0
  pub credit-of-two :
      (a i : ℕ) → a < ACCOUNTS → i < lots_kind.items
      → answer_number (ruling lots_kind nothing (crediting a i 2)) ≡ 24
  pub earmark-bytes : bytes_of (on_trade Earmark 7) ≡ earmark_of_trade_7
  -- by hand: account 70 does not exist, but that seller and buyer are one is checked first
  pub same-parties :
      (h : Rulebook) (item currency trade quantity amount : ℕ) → trade < TRADES
      → answer_number (answer h empty (of_fields 3 70 70 item currency trade quantity amount)) ≡ 33
  -- by hand: a trade is settled once it is funded, so an earmarked one is not
  pub settle-too-early :
      (h : Rulebook) (s : Standing) (t : ℕ) → t < TRADES → s.state t ≡ Earmarked
      → answer_number (answer h s (on_trade Settle t)) ≡ 35
  -- by hand: what the seller and the buyer of a settled trade have
  pub settlement : HasEightAmounts (standing_after trade_7)
  -- by hand: for each number that the rules can answer, instructions that get it
  pub answers : AnswersByHand
  pub mark-bytes : mark_bytes 0 ≡ first_mark
  -- by hand: bytes 4 to 7 of a mark are never all 0 where bytes 0 to 3 are, so zeros are no mark
  pub zeros-no-mark : (k : ℕ) → is_mark k zeros ≡ false

-- By hand, as the rows above: the results of the trials that the code makes itself.
abbrev pub expected_outcomes : Outcomes
expected_outcomes = record {
  block_of_nothing = 25;
  credit_to_ceiling = 0;
  credit_past_ceiling = 24;
  credit_of_a_lot = 0;
  credit_of_two = 24;
  earmark_bytes = earmark_of_trade_7;
  same_parties = 33;
  settlement = eight_amounts;
  first_mark = first_mark;
  zeros_are_a_mark = false;
}
