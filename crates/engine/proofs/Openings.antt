-- What an opening finds on a device whose journal keeps a list.
use Rattle.std.proofs.Common.{◌≡◌, ℕ, zero, suc, ◌+◌, ◌-◌, ◌*◌, ◌<◌, ◌≤◌, false, eqb, ltb, leb, List, [], ◌∷◌, ◌++◌, length, get_or, take, Some, None, Ok, Err, Option, Result, sym, refl, ap, ◌∙◌, subst, inl, inr, ⊎_elim, add-one, arith}
use Rattle.std.proofs.lemmas.Bool.{eq-eqb, ne_eqb, lt-leb, le-ltb, cases_eq, cases_Bool, cond-true, cond-false, both_ways}
use Rattle.std.proofs.lemmas.List.{length_push, get_or_push, get_or_append_left, take_all, take_more}
use Rattle.std.specs.Option.{unwrap_or}
use Rattle.refusals.specs.declared.Refusal.TheVariants.{NoCalls}
use Rattle.refusals.specs.declared.Fault.{Fault}
use Rattle.refusals.specs.Faults.{at_block}
use Rattle.instruction.specs.declared.Instruction.{Instruction}
use Rattle.rulebook.specs.Terms.{securities, cash}
use Rattle.rulebook.specs.Rules.{Rulebook, Standing, empty, effect, AreAccepted, more}
use Rattle.device.specs.Medium.{Medium, IsBounded}
use Rattle.device.specs.Calls.{SameBlocks}
use Rattle.journal.specs.Journal.{JournalBlocks, mark_at, MarkIsGood, Says, Journal}
use Rattle.journal.specs.Blocks.{header_bytes, no_instruction}
use Rattle.journal.proofs.Trips.{header-read}
use Rattle.journal.proofs.Survives.{Found, looking, found-one, idle-found}
use Rattle.journal.specs.Entries.{after_reads, is_good, with_calls_left}
use Rattle.journal.specs.Headers.{after_read_header, header_block_answer, header_pairs, read_header_answer}
use Rattle.journal.proofs.ReadAnswers.{mark-good, mark-tested}
use Rattle.engine.specs.declared.engine.FoundEntries.{FoundEntries}
use Rattle.engine.specs.Recovery.{Scan, scan}
use Rattle.engine.specs.View.{View}
use Rattle.engine.specs.Opening.{outcome_view, scan_view, refused_view, view_by_header, opening_view, header_for_books}
use Rattle.engine.specs.StandingList.{record_contents, entry_instruction, standing_list, blocks_for_books}
use Rattle.engine.proofs.Keeping.{Lawful, WithOrWithout, OpenedOn}
use Rattle.engine.proofs.Finds.{Ends, calls-find}

-- with another number of calls left all blocks are the same
pub fewer-calls : (m : Medium) (n : ℕ) → SameBlocks m (with_calls_left n m)
fewer-calls m n = record { size = refl; holds = λ k. refl; loose = λ k. refl }

module _ (h : Rulebook) (pairs : ℕ) where
  abbrev L : JournalBlocks Instruction
  L = blocks_for_books h pairs

  entry-is : (m : Medium) (k : ℕ) (x : Instruction) → Says L m k x → entry_instruction m k ≡ x
  entry-is m k x q =
      ap (λ o. unwrap_or (record_contents k o) no_instruction) q.1.0 ∙ ap (λ r. unwrap_or r no_instruction) q.2

  listed-to : (m : Medium) (xs : List Instruction) (hand : Option Instruction) → Journal L m xs hand → (n : ℕ)
      → n ≤ length xs → standing_list m n ≡ take n xs
  unfolding standing_list
  listed-to m xs hand j zero l = refl
  listed-to m xs hand j (suc n) l =
      let before = listed-to m xs hand j n (omega arith) in
      let here = entry-is m n (get_or xs n no_instruction) (j.records n (omega arith)) in
      (λ i. before i ++ (here i ∷ [])) ∙ sym (take_more xs n no_instruction (omega arith))
      ∙ ap (λ k. take k xs) (add-one n)

  -- the list that a device keeps is what its records say
  pub listed-is : {m : Medium} {xs : List Instruction} {hand : Option Instruction} → Journal L m xs hand
      → standing_list m (length xs) ≡ xs
  listed-is {m} {xs} {hand} j =
      listed-to m xs hand j (length xs) (omega arith) ∙ take_all (length xs) xs (omega arith)

  -- the mark after the list is not good
  found-without : (m : Medium) (xs : List Instruction) (hand : Option Instruction) → Journal L m xs hand
      → (MarkIsGood L m (length xs) → ⊥) → Found L m xs
  found-without m xs hand j bad =
      record {
        room = j.room;
        marks = λ k l. (j.marks k l).0;
        records = λ k l. let q = j.records k l in (q.0, q.1.0, q.2);
        stop = λ l. bad;
      }

  -- it is, and then so is the record
  found-with : (m : Medium) (xs : List Instruction) (x : Instruction) → Journal L m xs (Some x)
      → MarkIsGood L m (length xs) → Found L m (xs ++ (x ∷ []))
  found-with m xs x j marks =
      let n = length xs in
      let p = length_push xs x in
      let says : Says L m n x = ⊎_elim (λ b. absurd (b.0 marks)) (λ f. f.0) j.tail.1 in
      record {
        room = omega (arith, j.tail.0);
        marks = λ k l.
            ⊎_elim (λ (e : k ≡ n). subst (MarkIsGood L m) (sym e) marks) (λ ne. (j.marks k (omega arith)).0)
            (cases_eq k n);
        records = λ k l.
            ⊎_elim (λ (e : k ≡ n). rw (get_or_push xs x no_instruction k (sym e), e) (says.0, says.1.0, says.2))
            (λ ne. rw (get_or_append_left xs (x ∷ []) no_instruction k (omega arith))
            (let q = j.records k (omega arith) in (q.0, q.1.0, q.2)))
            (cases_eq k n);
        stop = λ l. rw p (j.beyond (n + 1) (omega arith) (omega arith)).0;
      }

  -- an opening that reads all of the journal finds the list, with or without what was in hand
  pub list-found : (m : Medium) (xs : List Instruction) (hand : Option Instruction) → pairs ≤ 32767 → IsBounded m
      → 0 < m.calls_left → Journal L m xs hand
      → (ws : List Instruction) × Found L m ws × WithOrWithout xs hand ws × Journal L m ws None
  list-found m xs None few b l j = (xs, idle-found L m xs j, inl refl, j)
  list-found m xs (Some x) few b l j =
      let n = length xs in
      elim (cases_Bool (is_good n (m.holds (mark_at n)))) [
        | inl e ↦
            let f = found-with m xs x j (mark-tested m n b e) in
            (xs ++ (x ∷ []), f, inr (x, refl, refl), (found-one L m xs (xs ++ (x ∷ [])) x f j l).1)
        | inr e ↦
            let f = found-without m xs (Some x) j
            (λ g. both_ways (is_good n (m.holds (mark_at n))) e (mark-good m n (omega (arith, j.tail.0)) g)) in
            (xs, f, inl refl, (found-one L m xs xs x f j l).1)
      ]

  -- it leads where the rules do
  leads-on : (xs : List Instruction) (hand : Option Instruction) (ws : List Instruction) → Lawful h xs hand
      → WithOrWithout xs hand ws → (s : Standing) × AreAccepted h ws s
  leads-on xs hand ws a (inl e) = (a.standing, subst (λ ys. AreAccepted h ys a.standing) (sym e) a.runs)
  leads-on xs hand ws a (inr (x, is, e)) =
      (effect a.standing x, subst (λ ys. AreAccepted h ys (effect a.standing x)) (sym e) (more x a.runs (a.next x is)))

  -- a recovery of that list, by its answer
  scan-opens : (m : Medium) (xs : List Instruction) (hand : Option Instruction) (ws : List Instruction)
      (s : Standing) (z : Scan) → pairs ≤ 32767 → 0 < m.calls_left → Journal L m xs hand
      → WithOrWithout xs hand ws → Journal L m ws None → AreAccepted h ws s → Ends z pairs (m.calls_left - 1) ws s
      → (r : Result FoundEntries Fault) → z.outcome ≡ r
      → OpenedOn h pairs m xs hand (outcome_view r pairs (with_calls_left z.calls_left m) z.standing)
  scan-opens m xs hand ws s z few l j which kept runs ends (Ok found) e =
      let o = ends.only found e in
      let fewer : z.calls_left ≤ m.calls_left = omega (arith, ends.fewer) in
      record {
        same = fewer-calls m z.calls_left;
        fewer = fewer;
        prompt = λ c. refl;
        found = (
          ws,
          which,
          record {
            journal = looking L m (with_calls_left z.calls_left m) ws None kept (fewer-calls m z.calls_left) fewer;
            runs = subst (λ t. AreAccepted h ws t) (sym o.1) runs;
            room = refl;
            entry_count = ap (λ (f : FoundEntries). f.count) o.0;
            found = ap (λ (f : FoundEntries). f.count) o.0;
            last_found = ap (λ (f : FoundEntries). f.last) o.0;
          },
        );
      }
  scan-opens m xs hand ws s z few l j which kept runs ends (Err f) e =
      let fewer : z.calls_left ≤ m.calls_left = omega (arith, ends.fewer) in
      record {
        same = fewer-calls m z.calls_left;
        fewer = fewer;
        prompt = λ c. let a = sym e ∙ ends.enough (omega arith) in absurd cc;
        found = (
          ends.short f e,
          looking L m (with_calls_left z.calls_left m) xs hand j
              (fewer-calls m z.calls_left) fewer,
        );
      }

  module _ (m : Medium) (some : 0 < pairs) (few : pairs ≤ 32767) (within : 1 + 2 * pairs ≤ m.size) where
    abbrev register : ℕ
    register = (h.book_kind securities).code

    abbrev money : ℕ
    money = (h.book_kind cash).code

    sized : leb m.size 0 ≡ false
    sized = lt-leb m.size 0 (omega arith)

    one-spent : after_read_header m ≡ after_reads 1 m
    one-spent = cond-false (leb m.size 0) m (after_reads 1 m) sized

    -- without a call the header is not read
    no-header : m.calls_left ≡ 0 → opening_view h m ≡ refused_view (at_block NoCalls 0) (after_reads 1 m)
    no-header z =
        let e : read_header_answer register money m ≡ Err (at_block NoCalls 0) =
        cond-false (leb m.size 0) _ _ sized ∙ cond-true (eqb m.calls_left 0) _ _ (eq-eqb m.calls_left 0 z) in
        (λ i. view_by_header h (one-spent i) (e i))

    -- it is for these books, and the device has its blocks
    header-right : register < 256 → money < 256 → m.holds 0 ≡ Some (header_bytes (header_for_books h pairs))
        → header_block_answer register money m.size (m.holds 0) ≡ Ok pairs
    header-right r c e =
        ap (header_block_answer register money m.size) e
        ∙ ap (header_pairs register money m.size) (header-read (header_for_books h pairs) r c some (omega arith))
        ∙ rw (eq-eqb register register refl, eq-eqb money money refl)
        (cond-false (ltb m.size (1 + 2 * pairs)) _ _ (le-ltb m.size (1 + 2 * pairs) within))

    pub then-scanned : (m.calls_left ≡ 0 → ⊥) → register < 256 → money < 256
        → m.holds 0 ≡ Some (header_bytes (header_for_books h pairs))
        → opening_view h m ≡ scan_view pairs (after_reads 1 m) (scan h pairs (after_reads 1 m) 0 empty None)
    then-scanned left r c held =
        let e : read_header_answer register money m ≡ Ok pairs =
        cond-false (leb m.size 0) _ _ sized ∙ cond-false (eqb m.calls_left 0) _ _ (ne_eqb m.calls_left 0 left)
        ∙ header-right r c held in
        (λ i. view_by_header h (one-spent i) (e i))

    module _ (xs : List Instruction) (hand : Option Instruction) (b : IsBounded m) (j : Journal L m xs hand) where
      opens-without : m.calls_left ≡ 0
          → OpenedOn h pairs m xs hand (refused_view (at_block NoCalls 0) (after_reads 1 m))
      opens-without z =
          let fewer : m.calls_left - 1 ≤ m.calls_left = omega arith in
          record {
            same = fewer-calls m (m.calls_left - 1);
            fewer = fewer;
            prompt = λ l. absurd (omega arith);
            found = (refl, looking L m (after_reads 1 m) xs hand j (fewer-calls m (m.calls_left - 1)) fewer);
          }

      opens-scanned : (m.calls_left ≡ 0 → ⊥) → Lawful h xs hand
          → OpenedOn h pairs m xs hand
          (scan_view pairs (after_reads 1 m) (scan h pairs (after_reads 1 m) 0 empty None))
      opens-scanned left lawful =
          let w = list-found m xs hand few b (omega arith) j in
          let to = leads-on xs hand w.0 lawful w.2 in
          let z = scan h pairs (after_reads 1 m) 0 empty None in
          scan-opens m xs hand w.0 to.0 z few (omega arith) j w.2 w.3 to.1
          (calls-find h pairs m w.0 to.0 few b w.1 to.1 (m.calls_left - 1)) z.outcome refl

  -- What an opening finds on a device that keeps a list: that list, with or without what was in
  -- hand.
  pub opens : (m : Medium) (xs : List Instruction) (hand : Option Instruction) (v : View) → 0 < pairs → pairs ≤ 32767
      → 1 + 2 * pairs ≤ m.size
      → (h.book_kind securities).code < 256 → (h.book_kind cash).code < 256 → IsBounded m → Journal L m xs hand
      → Lawful h xs hand → v ≡ opening_view h m → OpenedOn h pairs m xs hand v
  opens m xs hand v some few within r c b j lawful is =
      elim (cases_eq m.calls_left 0) [
        | inl z ↦
            subst (λ u. OpenedOn h pairs m xs hand u) (sym (is ∙ no-header m some few within z))
            (opens-without m some few within xs hand b j z)
        | inr left ↦
            subst (λ u. OpenedOn h pairs m xs hand u) (sym (is ∙ then-scanned m some few within left r c j.head.0))
            (opens-scanned m some few within xs hand b j left lawful)
      ]
