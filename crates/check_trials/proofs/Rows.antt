-- Each row of the proved trials.
use Rattle.std.proofs.Common.{◌≡◌, ℕ, ◌<◌, false, eqb, refl, ap, arith}
use Rattle.std.proofs.lemmas.Bool.{eq-eqb, lt-leb}
use Rattle.refusals.specs.Numbers.{answer_number}
use Rattle.instruction.specs.declared.Kind.TheVariants.{Settle}
use Rattle.book.specs.Sums.{amount_if}
use Rattle.book.specs.Holdings.{nothing, total, crediting, blocking, apply}
use Rattle.book.specs.Rulings.{ruling, outcome}
use Rattle.book.proofs.Sums.{sum_below-zero}
use Rattle.rulebook.specs.declared.State.TheVariants.{Earmarked}
use Rattle.rulebook.specs.Rules.{Rulebook, Standing, empty, answer}
use Rattle.book.proofs.Totals.{total-credit}
use Rattle.balances.specs.Rows.{balances_kind}
use Rattle.lots.specs.Owners.{lots_kind}
use Rattle.journal.specs.Blocks.{zeros, is_mark}
use Rattle.instruction.specs.Layout.{on_trade}
use Rattle.check_trials.proofs.Settled.{settled, answers-by-hand}
use Rattle.check_trials.specs.ByHand.{of_fields}
use Rattle.check_trials.specs.Proved.{ProvedTrials}

nothing-in-all : (i : ℕ) → total nothing i ≡ 0
nothing-in-all i = sum_below-zero 64 (λ a. 0) (λ a. refl)

pub block-of-nothing : (a i : ℕ) → a < 64 → i < 16 → answer_number (ruling balances_kind nothing (blocking a i 1)) ≡ 25
block-of-nothing a i la li = rw (lt-leb 64 a la, lt-leb 16 i li)

pub credit-to-ceiling : (a i : ℕ) → a < 64 → i < 16
    → answer_number (ruling balances_kind nothing (crediting a i 1000000000000)) ≡ 0
credit-to-ceiling a i la li = rw (lt-leb 64 a la, lt-leb 16 i li, nothing-in-all i)

filled : (a i : ℕ) → a < 64 → total (apply nothing (crediting a i 1000000000000)) i ≡ 1000000000000
filled a i la =
    let t = total-credit nothing a i 1000000000000 i la in
    let o : amount_if (eqb i i) 1000000000000 ≡ 1000000000000 = ap (λ b. amount_if b 1000000000000)
    (eq-eqb i i refl) in
    let z = nothing-in-all i in
    omega arith

pub credit-past-ceiling : (a b i : ℕ) → a < 64 → b < 64 → i < 16
    → answer_number (ruling balances_kind (apply nothing (crediting a i 1000000000000)) (crediting b i 1)) ≡ 24
credit-past-ceiling a b i la lb li = rw (lt-leb 64 b lb, lt-leb 16 i li, filled a i la)

-- the first credit is carried out
pub filled-once : outcome balances_kind nothing (crediting 0 0 1000000000000) ≡ apply nothing
    (crediting 0 0 1000000000000)
filled-once = let z = nothing-in-all 0 in rw z

pub credit-of-a-lot : (a i : ℕ) → a < 64 → i < 256 → answer_number (ruling lots_kind nothing (crediting a i 1)) ≡ 0
credit-of-a-lot a i la li = rw (lt-leb 64 a la, lt-leb 256 i li, nothing-in-all i)

pub credit-of-two : (a i : ℕ) → a < 64 → i < 256 → answer_number (ruling lots_kind nothing (crediting a i 2)) ≡ 24
credit-of-two a i la li = rw (lt-leb 64 a la, lt-leb 256 i li, nothing-in-all i)

pub same-parties : (h : Rulebook) (item currency trade quantity amount : ℕ) → trade < 128
    → answer_number (answer h empty (of_fields 3 70 70 item currency trade quantity amount)) ≡ 33
same-parties h item currency trade quantity amount l = rw (lt-leb 128 trade l)

settle-too-early : (h : Rulebook) (s : Standing) (t : ℕ) → t < 128 → s.state t ≡ Earmarked
    → answer_number (answer h s (on_trade Settle t)) ≡ 35
settle-too-early h s t l e = rw (lt-leb 128 t l, e)

zeros-no-mark : (k : ℕ) → is_mark k zeros ≡ false
zeros-no-mark k = grind arith

pub proved-trials : ProvedTrials
proved-trials = record {
  block-of-nothing = block-of-nothing;
  credit-to-ceiling = credit-to-ceiling;
  credit-past-ceiling = credit-past-ceiling;
  credit-of-a-lot = credit-of-a-lot;
  credit-of-two = credit-of-two;
  earmark-bytes = refl;
  same-parties = same-parties;
  settle-too-early = settle-too-early;
  settlement = settled;
  answers = answers-by-hand;
  mark-bytes = refl;
  zeros-no-mark = zeros-no-mark;
}
