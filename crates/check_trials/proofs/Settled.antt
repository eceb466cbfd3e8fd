-- The settlement of one trade, computed.
use Rattle.std.proofs.Common.{◌≡◌, ℕ, Ok, Result, refl, ap, ◌∙◌}
use Rattle.refusals.specs.declared.Refusal.{Refusal}
use Rattle.instruction.specs.declared.Instruction.{Instruction}
use Rattle.book.specs.Sums.{sum_below}
use Rattle.book.specs.declared.Holding.{Holding}
use Rattle.book.specs.Rulings.{holding_of}
use Rattle.rulebook.specs.Terms.{Side, securities, cash}
use Rattle.rulebook.specs.Rules.{Rulebook, Standing, step}
use Rattle.rulebook.specs.Law.{FollowsRules}
use Rattle.check_trials.specs.declared.Settlement.{Settlement}
use Rattle.check_trials.specs.ByHand.{trade_7, standing_after, HasEightAmounts, eight_amounts, AnswersByHand}

pub settled : HasEightAmounts (standing_after trade_7)
unfolding sum_below
settled = record {
  seller-item-free = refl;
  seller-item-blocked = refl;
  buyer-item-free = refl;
  buyer-item-blocked = refl;
  seller-currency-free = refl;
  seller-currency-blocked = refl;
  buyer-currency-free = refl;
  buyer-currency-blocked = refl;
}

pub answers-by-hand : AnswersByHand
unfolding sum_below
answers-by-hand = record {
  unknown-kind = refl;
  stray-field = refl;
  no-trade = refl;
  ever-entered = refl;
  same-parties = refl;
  no-account = refl;
  no-item = refl;
  no-quantity = refl;
  over-ceiling = refl;
  over-free = refl;
  wrong-state = refl;
  accepted = refl;
}

-- where an instruction leads from a known standing
pub led : {h : Rulebook} {s t u : Standing} {x y : Instruction} → FollowsRules h s t x → s ≡ u → x ≡ y → t ≡ step h u y
led {h} {s} {t} {u} {x} {y} g e f = g.after ∙ ap (λ s. step h s x) e ∙ ap (λ x. step h u x) f

-- what a question is answered after the settlement
pub answered : (d : Side) (a i : ℕ) (s : Standing) {r : Result Holding Refusal} → s ≡ standing_after trade_7
    → r ≡ Ok (holding_of (s.book d) a i) → r ≡ Ok (holding_of ((standing_after trade_7).book d) a i)
answered d a i s e f = f ∙ ap (λ (s : Standing). Ok (holding_of (s.book d) a i)) e

-- the eight amounts as the code answers them
abbrev pub answered_after : Standing → Settlement
answered_after s = record {
  seller_item = holding_of (s.book securities) 1 3;
  buyer_item = holding_of (s.book securities) 2 3;
  seller_currency = holding_of (s.book cash) 1 4;
  buyer_currency = holding_of (s.book cash) 2 4;
}

pub eight : answered_after (standing_after trade_7) ≡ eight_amounts
eight = λ k. record {
  seller_item = record { free = settled.seller-item-free k; blocked = settled.seller-item-blocked k };
  buyer_item = record { free = settled.buyer-item-free k; blocked = settled.buyer-item-blocked k };
  seller_currency = record { free = settled.seller-currency-free k; blocked = settled.seller-currency-blocked k };
  buyer_currency = record { free = settled.buyer-currency-free k; blocked = settled.buyer-currency-blocked k };
}
