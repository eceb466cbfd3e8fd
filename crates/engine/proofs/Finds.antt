-- What a recovery of a whole journal finds: its list, and where that leads.
use Rattle.std.proofs.Common.{◌≡◌, ℕ, zero, suc, ◌+◌, ◌-◌, ◌*◌, ◌<◌, ◌≤◌, Bool, true, false, eqb, List, [], ◌∷◌, ◌++◌, length, get_or, take, drop, Some, None, Ok, Err, Option, Result, sym, refl, ap, ◌∙◌, subst, inl, inr, arith}
use Rattle.std.proofs.lemmas.Bool.{eq-eqb, ne_eqb, cases_lt, cases_eq, cond-true, cond-false}
use Rattle.std.proofs.lemmas.List.{take_all, drop_all, take_more, drop_more}
use Rattle.std.proofs.lemmas.Option.{same_Some, none-some}
use Rattle.refusals.specs.declared.Refusal.{Refusal}
use Rattle.refusals.specs.Numbers.{number_of}
use Rattle.refusals.specs.declared.Refusal.TheVariants.{NoCalls}
use Rattle.refusals.specs.declared.Fault.{Fault}
use Rattle.refusals.specs.Faults.{at_block, in_entry}
use Rattle.instruction.specs.declared.Instruction.{Instruction}
use Rattle.rulebook.specs.Rules.{Rulebook, Standing, empty, answer, with_trade, effect, AreAccepted, start, more}
use Rattle.device.specs.Medium.{Medium, IsBounded}
use Rattle.journal.specs.Journal.{record_at, mark_at, MarkIsGood}
use Rattle.journal.proofs.Survives.{Found}
use Rattle.journal.specs.Blocks.{mark_bytes, record_in, read_in, no_instruction}
use Rattle.journal.specs.Entries.{as_entry_fault, is_good, record_block_answer, with_calls_left}
use Rattle.journal.proofs.ReadAnswers.{mark-bad, mark-good}
use Rattle.engine.specs.declared.engine.FoundEntries.{FoundEntries}
use Rattle.engine.specs.Recovery.{rules_answer, answer_by_record, answer_by_mark, entry_answer, scan_turn, Scan, scan}
use Rattle.engine.specs.Opening.{last_of}
use Rattle.engine.specs.StandingList.{blocks_for_books}

-- from s the instructions are accepted one after another, and lead to t
abbrev Follows : Rulebook → Standing → List Instruction → Standing → Type 0
Follows h s [] t = t ≡ s
Follows h s (x ∷ xs) t = (answer h s x ≡ Ok tt) × Follows h (effect s x) xs t

follows-more : (h : Rulebook) (xs : List Instruction) (s t : Standing) (x : Instruction) → Follows h s xs t
    → answer h t x ≡ Ok tt → Follows h s (xs ++ (x ∷ [])) (effect t x)
follows-more h [] s t x f a = (subst (λ u. answer h u x ≡ Ok tt) f a, ap (λ u. effect u x) f)
follows-more h (y ∷ xs) s t x f a = (f.0, follows-more h xs (effect s y) t x f.1 a)

follows : (h : Rulebook) {xs : List Instruction} {s : Standing} → AreAccepted h xs s → Follows h empty xs s
follows h start = refl
follows h (more {xs = xs} {s = s} x r e) = follows-more h xs empty s x (follows h r) e

pub last-more : (xs : List Instruction) (x : Instruction) → last_of (xs ++ (x ∷ [])) ≡ Some x
last-more [] x = refl
last-more (y ∷ []) x = refl
last-more (y ∷ z ∷ xs) x = last-more (z ∷ xs) x

said-so : (r : Result Instruction Refusal) (x : Instruction) → read_in r ≡ Some x → r ≡ Ok x
said-so (Ok y) x e = ap Ok (same_Some y x e)
said-so (Err f) x e = absurd (none-some x e)

-- What a recovery of n more entries with so many calls gives, where this list is found and leads
-- to t: it ends well where the calls are enough, and if it ends well this is what it found; else
-- it wanted calls.
pub record Ends (z : Scan) (n calls : ℕ) (ws : List Instruction) (t : Standing) : Type 0 where
  pub enough : 2 * n ≤ calls → z.outcome ≡ Ok (record { count = length ws; last = last_of ws })
  pub only : (found : FoundEntries) → z.outcome ≡ Ok found
      → (found ≡ record { count = length ws; last = last_of ws }) × (z.standing ≡ t)
  pub fewer : z.calls_left ≤ calls
  pub short : (f : Fault) → z.outcome ≡ Err f → number_of f.refusal ≡ 13

module _ {ws : List Instruction} {t : Standing} where
  ends-found : (k n calls left : ℕ) (s : Standing) (last : Option Instruction) → k ≡ length ws → last ≡ last_of ws
      → t ≡ s → left ≤ calls
      → Ends (record {
        outcome = Ok
            (record { count = k; last = last });
        calls_left = left;
        standing = s;
      }) n calls ws t
  ends-found k n calls left s last ek el es l =
      let same : ◌≡◌ {A = FoundEntries} (record { count = k; last = last })
      (record { count = length ws; last = last_of ws }) = λ i. record { count = ek i; last = el i } in
      record {
        enough = λ h. ap Ok same;
        only = λ found e. (let is : record { count = k; last = last } ≡ found = cc in sym is ∙ same, sym es);
        fewer = l;
        short = λ f e. absurd cc;
      }

  ends-refused : (f : Fault) (n calls left : ℕ) (s : Standing) → number_of f.refusal ≡ 13 → calls < 2 * n
      → left ≤ calls → Ends (record { outcome = Err f; calls_left = left; standing = s }) n calls ws t
  ends-refused f n calls left s wants few l = record {
    enough = λ h. absurd (omega arith);
    only = λ found e. absurd cc;
    fewer = l;
    short = λ g e. let is : f ≡ g = cc in subst (λ x. number_of x.refusal ≡ 13) is wants;
  }

  ends-onward : (z : Scan) (n calls : ℕ) → Ends z n (calls - 2) ws t → 2 ≤ calls → Ends z (suc n) calls ws t
  ends-onward z n calls e l =
      record { enough = λ h. e.enough (omega arith); only = e.only; fewer = omega (arith, e.fewer); short = e.short }

-- what entry k answers, with so many calls left
module _ (h : Rulebook) (m : Medium) (s : Standing) (k calls : ℕ) where
  abbrev on : Medium
  on = with_calls_left calls m

  no-mark-call : calls ≡ 0 → entry_answer h on s k ≡ Err (in_entry k (at_block NoCalls (mark_at k)))
  no-mark-call z = ap (answer_by_mark h on s k) (cond-true (eqb calls 0) _ _ (eq-eqb calls 0 z))

  mark-answers : (calls ≡ 0 → ⊥) → (b : Bool) → is_good k (m.holds (mark_at k)) ≡ b
      → entry_answer h on s k ≡ answer_by_mark h on s k (Ok b)
  mark-answers some b e = ap (answer_by_mark h on s k) (cond-false (eqb calls 0) _ _ (ne_eqb calls 0 some) ∙ ap Ok e)

  module _ (some : calls ≡ 0 → ⊥) (marks : is_good k (m.holds (mark_at k)) ≡ true) where
    no-record-call : calls - 1 ≡ 0 → entry_answer h on s k ≡ Err (in_entry k (at_block NoCalls (record_at k)))
    no-record-call z =
        mark-answers some true marks
        ∙ ap (answer_by_record h s k) (cond-true (eqb (calls - 1) 0) _ _ (eq-eqb (calls - 1) 0 z))

    entry-read : (calls - 1 ≡ 0 → ⊥) → (bs : List ℕ) (x : Instruction) → m.holds (record_at k) ≡ Some bs
        → record_in k bs ≡ Ok x → answer h s x ≡ Ok tt
        → entry_answer h on s k ≡ Ok (Some x)
    entry-read more-calls bs x holds is ok =
        mark-answers some true marks
        ∙ ap (answer_by_record h s k)
        (cond-false (eqb (calls - 1) 0) _ _ (ne_eqb (calls - 1) 0 more-calls) ∙ ap (record_block_answer k) holds
        ∙ ap (as_entry_fault k) is)
        ∙ ap (λ r. rules_answer k x (with_trade x r)) ok

module _ (h : Rulebook) (pairs : ℕ) (few : pairs ≤ 32767) (m : Medium) (b : IsBounded m) (ws : List Instruction)
    (f : Found (blocks_for_books h pairs) m ws) (t : Standing) where
  -- what comes after entry k
  abbrev turns : ℕ → ℕ → ℕ → Standing → Option Instruction → Scan
  turns n k calls s last =
      scan_turn (entry_answer h (with_calls_left calls m) s k) (with_calls_left calls m) k s last
      (λ x. scan h n (with_calls_left (calls - 2) m) (k + 1) (effect s x) (Some x))

  -- past the list the mark is not good
  stops : (n k calls : ℕ) (s : Standing) (last : Option Instruction) → k < pairs → k ≡ length ws → t ≡ s
      → last ≡ last_of ws → Ends (turns n k calls s last) (suc n) calls ws t
  stops n k calls s last l ek es el =
      elim (cases_eq calls 0) [
        | inl z ↦ rw (no-mark-call h m s k calls z)
            (ends-refused _ (suc n) calls (calls - 2) s refl (omega arith) (omega arith))
        | inr some ↦
            let bad : m.holds (mark_at k) ≡ Some (mark_bytes k)
            → ⊥ = subst (λ j. MarkIsGood (blocks_for_books h pairs) m j → ⊥) (sym ek) (f.stop (omega arith)) in
            rw (mark-answers h m s k calls some false (mark-bad m k b bad))
            (ends-found k (suc n) calls (calls - 1) s last ek el es (omega arith))
      ]

  recovers : (n k calls : ℕ) (s : Standing) (last : Option Instruction) → n + k ≡ pairs → k ≤ length ws
      → Follows h s (drop k ws) t → last ≡ last_of (take k ws)
      → Ends (scan h n (with_calls_left calls m) k s last) n calls ws t
  unfolding scan
  recovers zero k calls s last e l r el =
      let ek : k ≡ length ws = omega (arith, f.room) in
      ends-found k 0 calls calls s last ek (el ∙ ap last_of (take_all k ws (omega arith)))
      (subst (λ ys. Follows h s ys t) (drop_all k ws (omega arith)) r) (omega arith)
  recovers (suc n) k calls s last e l r el =
      elim (cases_lt k (length ws)) [
        | inr g ↦
            stops n k calls s last (omega arith) (omega arith) (subst (λ ys. Follows h s ys t) (drop_all k ws g) r)
            (el ∙ ap last_of (take_all k ws g))
        | inl under ↦
            elim (cases_eq calls 0) [
              | inl z ↦ rw (no-mark-call h m s k calls z)
                  (ends-refused _ (suc n) calls (calls - 2) s refl (omega arith) (omega arith))
              | inr some ↦
                  let x = get_or ws k no_instruction in
                  let marks = mark-good m k (omega arith) (f.marks k under) in
                  elim (cases_eq (calls - 1) 0) [
                    | inl z ↦ rw (no-record-call h m s k calls some marks z)
                        (ends-refused _ (suc n) calls (calls - 2) s refl (omega arith) (omega arith))
                    | inr more-calls ↦
                        let q = f.records k under in
                        let go = subst (λ ys. Follows h s ys t) (drop_more ws k no_instruction under) r in
                        rw (entry-read h m s k calls some marks more-calls q.0 x q.1
                        (said-so (record_in k q.0) x q.2) go.0)
                        (ends-onward _ n calls
                        (recovers n (k + 1) (calls - 2) (effect s x) (Some x) (omega arith) (omega arith) go.1
                        (sym (last-more (take k ws) x) ∙ ap last_of (sym (take_more ws k no_instruction under))))
                        (omega arith))
                  ]
            ]
      ]

-- A recovery of a journal in which an opening finds ws, whose instructions lead to s, finds ws
-- and leads there.
pub calls-find : (h : Rulebook) (pairs : ℕ) (m : Medium) (ws : List Instruction) (s : Standing) → pairs ≤ 32767
    → IsBounded m → Found (blocks_for_books h pairs) m ws → AreAccepted h ws s
    → (calls : ℕ) → Ends (scan h pairs (with_calls_left calls m) 0 empty None) pairs calls ws s
calls-find h pairs m ws s few b f r calls =
    recovers h pairs few m b ws f s pairs 0 calls empty None (omega arith) (omega arith) (follows h r) refl
