-- Why the header or an entry is refused.
use Rattle.std.proofs.Common.{◌≡◌, ℕ, ◌+◌, ◌-◌, ◌*◌, ◌^◌, ◌<◌, ◌&&◌, Bool, true, false, cond, eqb, ltb, leb, List, Some, None, Ok, Err, Option, Result, sym, refl, ap, ◌∙◌, subst, inl, inr, arith}
use Rattle.std.proofs.lemmas.Bool.{cond-true, cond-false, eqb-true, eqb-false, ltb-true, leb-true, leb-false, cases_Bool, and_parts, both_ways, eq-eqb}
use Rattle.refusals.specs.declared.Refusal.{Refusal}
use Rattle.refusals.specs.declared.Fault.{Fault}
use Rattle.refusals.specs.Faults.{plain, of_trade, of_record}
use Rattle.instruction.specs.declared.Instruction.{Instruction}
use Rattle.instruction.specs.Kinds.{kind_at}
use Rattle.rulebook.specs.Terms.{securities, cash}
use Rattle.rulebook.specs.Rules.{Rulebook, Standing, answer, names_trade, fault_of, with_trade}
use Rattle.device.specs.Medium.{Medium, IsBounded}
use Rattle.journal.specs.declared.header.Header.{Header}
use Rattle.journal.specs.Journal.{record_at, mark_at}
use Rattle.journal.specs.Blocks.{header_bytes, header_in, record_bytes, record_in}
use Rattle.journal.specs.Decoding.{IsProperHeader, ReadsHeader, ReadsRecord}
use Rattle.journal.proofs.Trips.{reads-header, reads-record}
use Rattle.journal.specs.Entries.{after_reads, as_entry_fault, is_good, read_record_answer, record_block_answer, with_calls_left}
use Rattle.journal.specs.Headers.{fitting_pairs, header_block_answer, header_pairs, read_header_answer}
use Rattle.journal.proofs.ReadAnswers.{mark-tested}
use Rattle.engine.specs.Recovery.{rules_answer, answer_by_record, answer_by_mark, entry_answer}
use Rattle.engine.specs.Findings.{HasGoodMark, IsFault, RefusesHeader, no-block, no-header-call, unreadable-header, no-header, other-kinds, too-few-blocks, IsRuleFault, RefusesEntry, no-mark-call, no-record-call, unreadable-record, malformed, rules-refuse}

pub same-fault : {X : Type 0} (g f : Fault) → ◌≡◌ {A = Result X Fault} (Err g) (Err f) → g ≡ f
same-fault g f e = cc

-- a fault that is another one says the same
as-said : {X : Type 0} {n : ℕ} {b k : Option ℕ} {g : Fault} (f : Fault) → ◌≡◌ {A = Result X Fault} (Err g) (Err f)
    → IsFault n b k g → IsFault n b k f
as-said {X} {n} {b} {k} {g} f e i = subst (λ x. IsFault n b k x) (same-fault g f e) i

-- an instruction names its trade where its kind is 3 to 7
pub names-by-kind : (n : ℕ) → names_trade (kind_at n) ≡ (leb 3 n && leb n 7)
names-by-kind n = grind arith

-- what the rules' fault says, by whether it names the trade
rule-said : (k : ℕ) (x : Instruction) (r : Refusal) (names : Bool) → names ≡ (leb 3 x.kind && leb x.kind 7)
    → IsRuleFault k x r (of_record k (cond names (of_trade x.trade (plain r)) (plain r)))
rule-said k x r true e =
    record { number = refl; block = refl; entry = refl; trade = ap (λ b. cond b (Some x.trade) None) e; rule = refl }
rule-said k x r false e =
    record { number = refl; block = refl; entry = refl; trade = ap (λ b. cond b (Some x.trade) None) e; rule = refl }

module _ (h : Rulebook) (m : Medium) (b : IsBounded m) (f : Fault) where
  abbrev register : ℕ
  register = (h.book_kind securities).code

  abbrev money : ℕ
  money = (h.book_kind cash).code

  fitting-refuses : 0 < m.calls_left → (head : Header) → IsProperHeader head → m.holds 0 ≡ Some (header_bytes head)
      → fitting_pairs register money m.size head ≡ Err f → RefusesHeader h m f
  fitting-refuses left head proper holds e =
      elim (cases_Bool (eqb head.register register && eqb head.cash money)) [
        | inl same ↦
            let q = and_parts (eqb head.register register) (eqb head.cash money) same in
            let w = sym (cond-true _ _ _ same) ∙ e in
            elim (cases_Bool (ltb m.size (1 + 2 * head.pairs))) [
              | inl few ↦
                  let x = sym (cond-true _ _ _ few) ∙ w in
                  too-few-blocks left head proper holds (eqb-true head.register register q.0)
                  (eqb-true head.cash money q.1) (ltb-true m.size (1 + 2 * head.pairs) few)
                  (as-said f x (record { number = refl; block = refl; entry = refl; trade = refl; rule = refl }))
              | inr enough ↦ let x = sym (cond-false _ _ _ enough) ∙ w in absurd cc
            ]
        | inr other ↦
            let w = sym (cond-false _ _ _ other) ∙ e in
            other-kinds left head proper holds
            (λ i j. both_ways (eqb head.register register && eqb head.cash money) other
            (rw (eq-eqb head.register register i, eq-eqb head.cash money j) refl))
            (as-said f w (record { number = refl; block = refl; entry = refl; trade = refl; rule = refl }))
      ]

  headed-refuses : 0 < m.calls_left → (bs : List ℕ) (r : Result Header Refusal) → m.holds 0 ≡ Some bs
      → ReadsHeader bs r → header_pairs register money m.size r ≡ Err f → RefusesHeader h m f
  headed-refuses left bs (Ok head) holds reads e = fitting-refuses left head reads.0 (holds ∙ ap Some (sym reads.1)) e
  headed-refuses left bs (Err r) holds reads e =
      no-header left bs holds reads.1
      (as-said f e (record { number = reads.0; block = refl; entry = refl; trade = refl; rule = refl }))

  held-refuses : 0 < m.size → 0 < m.calls_left → (o : Option (List ℕ)) → m.holds 0 ≡ o
      → header_block_answer register money m.size o ≡ Err f → RefusesHeader h m f
  held-refuses some left None holds e =
      unreadable-header some left holds
      (as-said f e (record { number = refl; block = refl; entry = refl; trade = refl; rule = refl }))
  held-refuses some left (Some bs) holds e =
      headed-refuses left bs (header_in bs) holds
      (reads-header bs (header_in bs) (b.whole 0 bs holds) (b.bytes 0 bs holds) refl) e

  pub header-refuses : read_header_answer register money m ≡ Err f → RefusesHeader h m f
  header-refuses e =
      elim (cases_Bool (leb m.size 0)) [
        | inl none ↦
            let q = sym (cond-true _ _ _ none) ∙ e in
            let z = leb-true m.size 0 none in
            no-block (omega arith)
            (as-said f q (record { number = refl; block = refl; entry = refl; trade = refl; rule = refl }))
        | inr some ↦
            let q = sym (cond-false _ _ _ some) ∙ e in
            let size = leb-false m.size 0 some in
            elim (cases_Bool (eqb m.calls_left 0)) [
              | inl out ↦
                  let w = sym (cond-true _ _ _ out) ∙ q in
                  no-header-call (omega arith) (eqb-true m.calls_left 0 out)
                  (as-said f w (record { number = refl; block = refl; entry = refl; trade = refl; rule = refl }))
              | inr left ↦
                  let w = sym (cond-false _ _ _ left) ∙ q in
                  let calls = eqb-false m.calls_left 0 left in
                  held-refuses (omega arith) (omega arith) (m.holds 0) refl w
            ]
      ]

  module _ (k : ℕ) (s : Standing) (low : k < 2 ^ 32) where
    rule-refuses : HasGoodMark m k → 2 + 2 * k < m.calls_left → (x : Instruction)
        → m.holds (record_at k) ≡ Some (record_bytes k x)
        → (r : Result (Unit {0}) Refusal) → answer h s x ≡ r → rules_answer k x (with_trade x r) ≡ Err f
        → RefusesEntry h m k s f
    rule-refuses mark left x holds (Ok u) is e = absurd cc
    rule-refuses mark left x holds (Err r) is e =
        let same = same-fault {X = Option Instruction} (of_record k (fault_of x r)) f e in
        rules-refuse mark left x holds r is
        (subst (λ g. IsRuleFault k x r g) same
        (rule-said k x r (names_trade (kind_at x.kind)) (names-by-kind x.kind)))

    told-refuses : HasGoodMark m k → 2 + 2 * k < m.calls_left → (bs : List ℕ) (r : Result Instruction Refusal)
        → m.holds (record_at k) ≡ Some bs → ReadsRecord k bs r
        → answer_by_record h s k (as_entry_fault k r) ≡ Err f → RefusesEntry h m k s f
    told-refuses mark left bs (Ok x) holds reads e =
        rule-refuses mark left x (holds ∙ ap Some (sym reads)) (answer h s x) refl e
    told-refuses mark left bs (Err r) holds reads e =
        malformed mark left bs holds reads.1
        (as-said f e (record { number = reads.0; block = refl; entry = refl; trade = refl; rule = refl }))

    said-refuses : HasGoodMark m k → 2 + 2 * k < m.calls_left → (o : Option (List ℕ)) → m.holds (record_at k) ≡ o
        → answer_by_record h s k (record_block_answer k o) ≡ Err f → RefusesEntry h m k s f
    said-refuses mark left None holds e =
        unreadable-record mark left holds
        (as-said f e (record { number = refl; block = refl; entry = refl; trade = refl; rule = refl }))
    said-refuses mark left (Some bs) holds e =
        told-refuses mark left bs (record_in k bs) holds
        (reads-record k bs (record_in k bs) low (b.whole (record_at k) bs holds)
        (b.bytes (record_at k) bs holds) refl) e

    module _ (calls : ℕ) (spent : m.calls_left ≡ calls + (1 + 2 * k)) where
      record-refuses : HasGoodMark m k → 0 < calls
          → answer_by_record h s k (read_record_answer (after_reads 1 (with_calls_left calls m)) k) ≡ Err f
          → RefusesEntry h m k s f
      record-refuses mark some e =
          elim (cases_Bool (eqb (calls - 1) 0)) [
            | inl out ↦
                let q = sym (ap (answer_by_record h s k) (cond-true _ _ _ out)) ∙ e in
                let z = eqb-true (calls - 1) 0 out in
                no-record-call mark (omega arith)
                (as-said f q (record { number = refl; block = refl; entry = refl; trade = refl; rule = refl }))
            | inr left ↦
                let q = sym (ap (answer_by_record h s k) (cond-false _ _ _ left)) ∙ e in
                let z = eqb-false (calls - 1) 0 left in
                said-refuses mark (omega arith) (m.holds (record_at k)) refl q
          ]

      good-refuses : (t : Bool) → is_good k (m.holds (mark_at k)) ≡ t → 0 < calls
          → answer_by_mark h (with_calls_left calls m) s k (Ok t) ≡ Err f → RefusesEntry h m k s f
      good-refuses true is some e = record-refuses (mark-tested m k b is) some e
      good-refuses false is some e = absurd cc

      pub entry-refuses : entry_answer h (with_calls_left calls m) s k ≡ Err f → RefusesEntry h m k s f
      entry-refuses e =
          elim (cases_Bool (eqb calls 0)) [
            | inl out ↦
                let q = sym (ap (answer_by_mark h (with_calls_left calls m) s k) (cond-true _ _ _ out)) ∙ e in
                let z = eqb-true calls 0 out in
                no-mark-call (omega arith)
                (as-said f q (record { number = refl; block = refl; entry = refl; trade = refl; rule = refl }))
            | inr left ↦
                let q = sym (ap (answer_by_mark h (with_calls_left calls m) s k) (cond-false _ _ _ left)) ∙ e in
                let z = eqb-false calls 0 left in
                good-refuses (is_good k (m.holds (mark_at k))) refl (omega arith) q
          ]
