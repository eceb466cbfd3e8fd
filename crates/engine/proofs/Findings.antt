-- What an opening found, on a device that may hold anything.
use Rattle.std.proofs.Common.{◌≡◌, ℕ, zero, suc, ◌+◌, ◌-◌, ◌*◌, ◌^◌, ◌<◌, ◌≤◌, Bool, true, false, cond, ◌&&◌, eqb, ltb, leb, List, [], ◌∷◌, ◌++◌, length, get_or, Some, None, Ok, Err, Option, Result, sym, refl, ap, ◌∙◌, subst, inl, inr, ⊎_elim, add-one, arith, lit<}
use Rattle.std.proofs.lemmas.Bool.{cond-true, cond-false, eqb-true, ltb-false, leb-true, and_parts, cases_Bool, cases_eq, both_ways}
use Rattle.std.proofs.lemmas.List.{length_push, get_or_push, get_or_append_left}
use Rattle.std.specs.Option.{unwrap_or}
use Rattle.refusals.specs.declared.Refusal.{Refusal}
use Rattle.refusals.specs.declared.Fault.{Fault}
use Rattle.instruction.specs.declared.Instruction.{Instruction}
use Rattle.instruction.specs.Layout.{IsEncodable}
use Rattle.rulebook.specs.Terms.{securities, cash}
use Rattle.rulebook.specs.Rules.{Rulebook, Standing, empty, answer, fault_answer, effect, AreAccepted, start, more}
use Rattle.ledger.proofs.Carried.{accepts}
use Rattle.device.specs.Medium.{Medium, IsBounded}
use Rattle.device.specs.Calls.{SameBlocks}
use Rattle.journal.specs.declared.header.Header.{Header}
use Rattle.journal.specs.Journal.{record_at, mark_at}
use Rattle.journal.proofs.Survives.{Found}
use Rattle.journal.specs.Blocks.{header_bytes, header_in, record_bytes, record_in, read_in, mark_bytes, no_instruction}
use Rattle.journal.proofs.Trips.{record-read, record-back, read-header}
use Rattle.journal.specs.Entries.{after_reads, as_entry_fault, is_good, read_mark_answer, read_record_answer, record_block_answer, with_calls_left}
use Rattle.journal.specs.Headers.{Fits, after_read_header, header_block_answer, header_pairs, read_header_answer}
use Rattle.journal.proofs.ReadAnswers.{header-spends, mark-good, mark-tested}
use Rattle.engine.specs.declared.engine.FoundEntries.{FoundEntries}
use Rattle.engine.specs.Recovery.{rules_answer, answer_by_record, answer_by_mark, entry_answer, scan_turn, Scan, scan}
use Rattle.engine.specs.declared.engine.Mode.TheVariants.{Open}
use Rattle.engine.specs.View.{View}
use Rattle.engine.specs.Opening.{outcome_view, view_by_header, opening_view, header_for_books, last_of}
use Rattle.engine.specs.StandingList.{record_contents, entry_instruction, standing_list, blocks_for_books}
use Rattle.engine.specs.Findings.{EntriesStand, FindsEntries, RefusesEntry, RefusesList, Opens, OpensIfEnoughCalls}
use Rattle.engine.proofs.Readings.{entry-two}
use Rattle.engine.proofs.Refusals.{same-fault, header-refuses, entry-refuses}
use Rattle.engine.proofs.Finds.{last-more, calls-find}
use Rattle.engine.proofs.Openings.{fewer-calls, then-scanned}

-- a check that was passed, where it refuses what fails its test,
met : {X : Type 0} (b : Bool) (r : Result X Fault) (f : Fault) (x : X) → cond b r (Err f) ≡ Ok x
    → (b ≡ true) × (r ≡ Ok x)
met true r f x e = (refl, e)
met false r f x e = absurd cc

-- and where it refuses what its test finds
spared : {X : Type 0} (b : Bool) (r : Result X Fault) (f : Fault) (x : X) → cond b (Err f) r ≡ Ok x
    → (b ≡ false) × (r ≡ Ok x)
spared true r f x e = absurd cc
spared false r f x e = (refl, e)

-- what the reading of a record and the rules' answer tell

told-so : (k : ℕ) (r : Result Instruction Refusal) (x : Instruction) → as_entry_fault k r ≡ Ok x → r ≡ Ok x
told-so k (Ok y) x e = cc
told-so k (Err f) x e = absurd cc

said-from : (k : ℕ) (o : Option (List ℕ)) (x : Instruction) → record_block_answer k o ≡ Ok x
    → (bs : List ℕ) × (o ≡ Some bs) × (record_in k bs ≡ Ok x)
said-from k None x e = absurd cc
said-from k (Some bs) x e = (bs, refl, told-so k (record_in k bs) x e)

allowed-so : (k : ℕ) (x y : Instruction) (r : Result (Unit {0}) Fault) → rules_answer k x r ≡ Ok (Some y)
    → (x ≡ y) × (r ≡ Ok tt)
allowed-so k x y (Ok u) e = (let o : ◌≡◌ {A = Option Instruction} (Some x) (Some y) = cc in cc, refl)
allowed-so k x y (Err f) e = absurd cc

allowed-ends : (k : ℕ) (x : Instruction) (r : Result (Unit {0}) Fault) → rules_answer k x r ≡ Ok None → ⊥
allowed-ends k x (Ok u) e = let o : ◌≡◌ {A = Option Instruction} (Some x) None = cc in absurd cc
allowed-ends k x (Err f) e = absurd cc

-- the device has the header and the blocks of a journal for these books, of so many pairs
record Heads (h : Rulebook) (m : Medium) (pairs : ℕ) : Type 0 where
  head : m.holds 0 ≡ Some (header_bytes (header_for_books h pairs))
  some : 0 < pairs
  fits : Fits pairs m

module _ (h : Rulebook) (m : Medium) (b : IsBounded m) where
  abbrev register : ℕ
  register = (h.book_kind securities).code

  abbrev money : ℕ
  money = (h.book_kind cash).code

  heads-read : (pairs : ℕ) (bs : List ℕ) (r : Result Header Refusal) → m.holds 0 ≡ Some bs → header_in bs ≡ r
      → header_pairs register money m.size r ≡ Ok pairs → Heads h m pairs
  heads-read pairs bs (Err f) holds is e = absurd cc
  heads-read pairs bs (Ok head) holds is e =
      let p = met (eqb head.register register && eqb head.cash money) _ _ pairs e in
      let q = and_parts (eqb head.register register) (eqb head.cash money) p.0 in
      let s = spared (ltb m.size (1 + 2 * head.pairs)) _ _ pairs p.1 in
      let n : head.pairs ≡ pairs = cc in
      let w = read-header bs head (b.whole 0 bs holds) (b.bytes 0 bs holds) is in
      let i = eqb-true head.register register q.0 in
      let j = eqb-true head.cash money q.1 in
      let same : head ≡ header_for_books h pairs = λ k. record { register = i k; cash = j k; pairs = n k } in
      let room = ltb-false m.size (1 + 2 * head.pairs) s.0 in
      record {
        head = holds ∙ ap Some (sym w.1 ∙ ap header_bytes same);
        some = omega (arith, w.0.some, n);
        fits = record { few = omega (arith, w.0.few, n); within = omega (arith, room, n) };
      }

  heads-held : (pairs : ℕ) (o : Option (List ℕ)) → m.holds 0 ≡ o
      → header_block_answer register money m.size o ≡ Ok pairs → Heads h m pairs
  heads-held pairs None holds e = absurd cc
  heads-held pairs (Some bs) holds e = heads-read pairs bs (header_in bs) holds refl e

  -- a header that passed its checks
  heads : (pairs : ℕ) → read_header_answer register money m ≡ Ok pairs → Heads h m pairs
  heads pairs e =
      let p = spared (leb m.size 0) _ _ pairs e in
      let q = spared (eqb m.calls_left 0) _ _ pairs p.1 in
      heads-held pairs (m.holds 0) refl q.1

  -- the first k entries have been read, and lead to s
  record Prefix (k : ℕ) (s : Standing) (last : Option Instruction) : Type 0 where
    marks : (j : ℕ) → j < k → m.holds (mark_at j) ≡ Some (mark_bytes j)
    records : (j : ℕ) → j < k → m.holds (record_at j) ≡ Some (record_bytes j (entry_instruction m j))
    list : AreAccepted h (standing_list m k) s
    is-last : last ≡ last_of (standing_list m k)

  none-read : Prefix 0 empty None
  unfolding standing_list
  none-read = record {
    marks = λ j l. absurd (omega arith);
    records = λ j l. absurd (omega arith);
    list = start;
    is-last = refl;
  }

  -- entry k has been read and says x, which the rules accept
  record ReadsEntry (k : ℕ) (s : Standing) (x : Instruction) : Type 0 where
    mark : m.holds (mark_at k) ≡ Some (mark_bytes k)
    entry : m.holds (record_at k) ≡ Some (record_bytes k x)
    says : entry_instruction m k ≡ x
    accepted : answer h s x ≡ Ok tt

  listed-more : (k : ℕ) → standing_list m (k + 1) ≡ standing_list m k ++ (entry_instruction m k ∷ [])
  unfolding standing_list
  listed-more k = rw (add-one k) refl

  one-more : (k : ℕ) (s : Standing) (last : Option Instruction) (x : Instruction) → Prefix k s last
      → ReadsEntry k s x → Prefix (k + 1) (effect s x) (Some x)
  one-more k s last x p e =
      let list : standing_list m (k + 1) ≡ standing_list m k ++ (x ∷ []) = listed-more k
      ∙ ap (λ y. standing_list m k ++ (y ∷ [])) e.says in
      record {
        marks = λ j l.
            ⊎_elim (λ (i : j ≡ k). subst (λ n. m.holds (mark_at n) ≡ Some (mark_bytes n)) (sym i) e.mark)
            (λ ne. p.marks j (omega arith)) (cases_eq j k);
        records = λ j l.
            ⊎_elim (λ (i : j ≡ k). subst (λ n. m.holds (record_at n) ≡ Some (record_bytes n (entry_instruction m n)))
            (sym i) (e.entry ∙ ap (λ y. Some (record_bytes k y)) (sym e.says)))
            (λ ne. p.records j (omega arith)) (cases_eq j k);
        list = subst (λ ys. AreAccepted h ys (effect s x)) (sym list) (more x p.list e.accepted);
        is-last = sym (ap last_of list ∙ last-more (standing_list m k) x);
      }

  -- what an entry that was read says
  module _ (k : ℕ) (s : Standing) where
    ruled-so : (x : Instruction) (r : Result Instruction Fault) → answer_by_record h s k r ≡ Ok (Some x)
        → (r ≡ Ok x) × (answer h s x ≡ Ok tt)
    ruled-so x (Ok y) e =
        let p = allowed-so k y x (fault_answer h s y) e in
        (ap Ok p.0, subst (λ z. answer h s z ≡ Ok tt) p.0 (accepts y (answer h s y) p.1))
    ruled-so x (Err f) e = absurd cc

    ruled-ends : (r : Result Instruction Fault) → answer_by_record h s k r ≡ Ok None → ⊥
    ruled-ends (Ok y) e = allowed-ends k y (fault_answer h s y) e
    ruled-ends (Err f) e = absurd cc

    marked-so : (on : Medium) (x : Instruction) (r : Result Bool Fault) → answer_by_mark h on s k r ≡ Ok (Some x)
        → (r ≡ Ok true) × (read_record_answer (after_reads 1 on) k ≡ Ok x) × (answer h s x ≡ Ok tt)
    marked-so on x (Ok true) e = let p = ruled-so x (read_record_answer (after_reads 1 on) k) e in (refl, p.0, p.1)
    marked-so on x (Ok false) e = let o : ◌≡◌ {A = Option Instruction} None (Some x) = cc in absurd cc
    marked-so on x (Err f) e = absurd cc

    marked-ends : (on : Medium) (r : Result Bool Fault) → answer_by_mark h on s k r ≡ Ok None → r ≡ Ok false
    marked-ends on (Ok true) e = absurd (ruled-ends (read_record_answer (after_reads 1 on) k) e)
    marked-ends on (Ok false) e = refl
    marked-ends on (Err f) e = absurd cc

    -- the mark's test, from its answer
    tested : (on : Medium) (t : Bool) → read_mark_answer on k ≡ Ok t → is_good k (on.holds (mark_at k)) ≡ t
    tested on t e =
        let p = spared (eqb on.calls_left 0) _ _ t e in
        let o : ◌≡◌ {A = Result Bool Fault} (Ok (is_good k (on.holds (mark_at k)))) (Ok t) = p.1 in
        cc

    entry-read : (calls : ℕ) (x : Instruction) → entry_answer h (with_calls_left calls m) s k ≡ Ok (Some x)
        → ReadsEntry k s x
    entry-read calls x e =
        let on = with_calls_left calls m in
        let p = marked-so on x (read_mark_answer on k) e in
        let q = spared (eqb (after_reads 1 on).calls_left 0)
        (record_block_answer k (m.holds (record_at k))) _ x p.1 in
        let r = said-from k (m.holds (record_at k)) x q.1 in
        let w : record_bytes k x ≡ r.0 = record-back r.0 (b.whole (record_at k) r.0 r.1)
        (b.bytes (record_at k) r.0 r.1) k x r.2 in
        record {
          mark = mark-tested m k b (tested on true p.0);
          entry = r.1 ∙ ap Some (sym w);
          says =
              ap (λ o. unwrap_or (record_contents k o) no_instruction) r.1
              ∙ ap (λ y. unwrap_or (read_in y) no_instruction) r.2;
          accepted = p.2;
        }

    entry-ends : (calls : ℕ) → k < 2 ^ 32 → entry_answer h (with_calls_left calls m) s k ≡ Ok None
        → m.holds (mark_at k) ≡ Some (mark_bytes k) → ⊥
    entry-ends calls l e is =
        let on = with_calls_left calls m in
        both_ways (is_good k (m.holds (mark_at k))) (tested on false (marked-ends on (read_mark_answer on k) e))
        (mark-good m k l is)

  -- a recovery that ended well at s has read this
  record Reads (pairs : ℕ) (s : Standing) (found : FoundEntries) : Type 0 where
    entries : Prefix found.count s found.last
    within : found.count ≤ pairs
    stop : found.count < pairs → m.holds (mark_at found.count) ≡ Some (mark_bytes found.count) → ⊥

  ends-so : (pairs k : ℕ) (s : Standing) (last : Option Instruction) (found : FoundEntries) → Prefix k s last
      → k ≤ pairs → (k < pairs → m.holds (mark_at k) ≡ Some (mark_bytes k) → ⊥)
      → ◌≡◌ {A = Result FoundEntries Fault} (Ok (record { count = k; last = last })) (Ok found) → Reads pairs s found
  ends-so pairs k s last found p l stop e =
      let is : record { count = k; last = last } ≡ found = cc in
      subst (λ f. Reads pairs s f) is (record { entries = p; within = l; stop = stop })

  module _ (pairs : ℕ) (few : pairs ≤ 32767) where
    abbrev onward : ℕ → ℕ → ℕ → Standing → Instruction → Scan
    onward n k calls s x = scan h n (with_calls_left (calls - 2) m) (k + 1) (effect s x) (Some x)

    -- by what entry k answers, where what comes after it is known
    turn-reads : (n k calls : ℕ) (s : Standing) (last : Option Instruction) (found : FoundEntries) → k < pairs
        → Prefix k s last
        → ((x : Instruction) → ReadsEntry k s x → (onward n k calls s x).outcome ≡ Ok found
        → Reads pairs (onward n k calls s x).standing found)
        → (r : Result (Option Instruction) Fault) → entry_answer h (with_calls_left calls m) s k ≡ r
        → (scan_turn r (with_calls_left calls m) k s last (onward n k calls s)).outcome ≡ Ok found
        → Reads pairs (scan_turn r (with_calls_left calls m) k s last (onward n k calls s)).standing found
    turn-reads n k calls s last found l p after (Ok None) is e =
        ends-so pairs k s last found p (omega arith) (λ r. entry-ends k s calls (omega arith) is) e
    turn-reads n k calls s last found l p after (Ok (Some x)) is e = after x (entry-read k s calls x is) e
    turn-reads n k calls s last found l p after (Err f) is e = absurd cc

    scan-reads : (n k calls : ℕ) (s : Standing) (last : Option Instruction) (found : FoundEntries) → n + k ≡ pairs
        → Prefix k s last
        → (scan h n (with_calls_left calls m) k s last).outcome ≡ Ok found
        → Reads pairs (scan h n (with_calls_left calls m) k s last).standing found
    unfolding scan
    scan-reads zero k calls s last found l p e =
        ends-so pairs k s last found p (omega arith) (λ r. absurd (omega arith)) e
    scan-reads (suc n) k calls s last found l p e =
        turn-reads n k calls s last found (omega arith) p
        (λ x w o. scan-reads n (k + 1) (calls - 2) (effect s x) (Some x) found (omega arith)
        (one-more k s last x p w) o)
        (entry_answer h (with_calls_left calls m) s k) refl e

  -- the entries that have been read stand
  stand : (pairs k : ℕ) (s : Standing) (last : Option Instruction) → Heads h m pairs → k ≤ pairs → Prefix k s last
      → EntriesStand h m pairs k s
  stand pairs k s last w l p = record {
    head = w.head;
    some = w.some;
    fits = w.fits;
    within = l;
    marks = p.marks;
    records = p.records;
    list = p.list;
  }

  module _ (pairs : ℕ) (w : Heads h m pairs) where
    -- by what entry k answers, where it is known why what comes after it is refused
    turn-refuses : (n k calls : ℕ) (s : Standing) (last : Option Instruction) (f : Fault) → k < pairs
        → m.calls_left ≡ calls + (1 + 2 * k) → Prefix k s last
        → ((x : Instruction) → ReadsEntry k s x → 2 ≤ calls → (onward pairs w.fits.few n k calls s x).outcome ≡ Err f
        → RefusesList h m f)
        → (r : Result (Option Instruction) Fault) → entry_answer h (with_calls_left calls m) s k ≡ r
        → (scan_turn r (with_calls_left calls m) k s last (onward pairs w.fits.few n k calls s)).outcome ≡ Err f
        → RefusesList h m f
    turn-refuses n k calls s last f l spent p after (Ok None) is e = absurd cc
    turn-refuses n k calls s last f l spent p after (Ok (Some x)) is e =
        after x (entry-read k s calls x is) (entry-two h s k (with_calls_left calls m) x (sym is)) e
    turn-refuses n k calls s last f l spent p after (Err g) is e = record {
      pairs = pairs;
      entry = k;
      below = l;
      standing = s;
      before = stand pairs k s last w (omega arith) p;
      refused =
          subst (λ x. RefusesEntry h m k s x) (same-fault {X = FoundEntries} g f e)
          (entry-refuses h m b g k s (omega (arith, w.fits.few)) calls spent is);
    }

    scan-refuses : (n k calls : ℕ) (s : Standing) (last : Option Instruction) (f : Fault) → n + k ≡ pairs
        → m.calls_left ≡ calls + (1 + 2 * k) → Prefix k s last
        → (scan h n (with_calls_left calls m) k s last).outcome ≡ Err f → RefusesList h m f
    unfolding scan
    scan-refuses zero k calls s last f l spent p e = absurd cc
    scan-refuses (suc n) k calls s last f l spent p e =
        turn-refuses n k calls s last f (omega arith) spent p
        (λ x r two o. scan-refuses n (k + 1) (calls - 2) (effect s x) (Some x) f (omega arith) (omega arith)
        (one-more k s last x p r) o)
        (entry_answer h (with_calls_left calls m) s k) refl e

  -- by what the recovery answers
  scanned-well : (pairs : ℕ) (z : Scan) (r : Result FoundEntries Fault) → Heads h m pairs
      → ((found : FoundEntries) → r ≡ Ok found → Reads pairs z.standing found)
      → ((f : Fault) → r ≡ Err f → RefusesList h m f)
      → Opens h m (outcome_view r pairs (with_calls_left z.calls_left m) z.standing)
      (outcome_view r pairs (with_calls_left z.calls_left m) z.standing).mode
  scanned-well pairs z (Ok found) w reads refuses =
      let r = reads found refl in
      record {
        entries = stand pairs found.count z.standing found.last w r.within r.entries;
        stop = r.stop;
        last_found = r.entries.is-last;
        entry_count = refl;
      }
  scanned-well pairs z (Err f) w reads refuses = (
    record { standing = refl; pairs = refl; found = refl; last_found = refl; entry_count = refl },
    inr
        (refuses f refl),
  )

  -- and by what the header's checks answer
  headed-well : (n : ℕ) (r : Result ℕ Fault) → (0 < m.size → n ≡ m.calls_left - 1)
      → read_header_answer register money m ≡ r
      → Opens h m (view_by_header h (with_calls_left n m) r) (view_by_header h (with_calls_left n m) r).mode
  headed-well n (Ok pairs) spent e =
      let w = heads pairs e in
      let z = scan h pairs (with_calls_left n m) 0 empty None in
      let calls : m.calls_left ≡ n + (1 + 2 * 0) = omega
      (arith, spent (omega (arith, w.fits.within)), (header-spends register money pairs m (sym e)).0) in
      scanned-well pairs z z.outcome w
      (λ found o. scan-reads pairs w.fits.few pairs 0 n empty None found (omega arith) none-read o)
      (λ f o. scan-refuses pairs w pairs 0 n empty None f (omega arith) calls none-read o)
  headed-well n (Err f) spent e = (
    record { standing = refl; pairs = refl; found = refl; last_found = refl; entry_count = refl },
    inl
        (header-refuses h m b f e),
  )

-- the list of the first n records has n instructions, each what its record says

listed-length : (m : Medium) (n : ℕ) → length (standing_list m n) ≡ n
unfolding standing_list
listed-length m zero = refl
listed-length m (suc n) = length_push (standing_list m n) (entry_instruction m n) ∙ omega (arith, listed-length m n)

listed-at : (m : Medium) (n k : ℕ) → k < n → get_or (standing_list m n) k no_instruction ≡ entry_instruction m k
unfolding standing_list
listed-at m zero k l = absurd (omega arith)
listed-at m (suc n) k l =
    ⊎_elim (λ (i : k ≡ n). get_or_push (standing_list m n) (entry_instruction m n) no_instruction k
    (listed-length m n ∙ sym i) ∙ ap (entry_instruction m) (sym i))
    (λ ne. get_or_append_left (standing_list m n) (entry_instruction m n ∷ []) no_instruction k
    (omega (arith, listed-length m n)) ∙ listed-at m n k (omega arith))
    (cases_eq k n)

fit-none : IsEncodable no_instruction
fit-none = record {
  kind = lit< tt;
  account = lit< tt;
  counterparty = lit< tt;
  item = lit< tt;
  currency = lit< tt;
  trade = lit< tt;
  quantity = lit< tt;
  amount = lit< tt;
}

-- a block that is the record of what it says is read so
record-says : (k : ℕ) (x : Instruction) (r : Result Instruction Refusal) → k < 2 ^ 32
    → record_in k (record_bytes k x) ≡ r → x ≡ unwrap_or (read_in r) no_instruction → read_in r ≡ Some x
record-says k x (Ok y) l is e = ap Some (sym e)
record-says k x (Err f) l is e =
    let o : ◌≡◌ {A = Result Instruction Refusal} (Err f) (Ok no_instruction) = sym is
    ∙ ap (λ y. record_in k (record_bytes k y)) e ∙ record-read k no_instruction l fit-none in
    absurd cc

-- what an opening may find on a device, it does
module _ (h : Rulebook) (m : Medium) (w : View) (f : FindsEntries h m w) where
  finds : Found (blocks_for_books h w.pairs) m (standing_list m w.found)
  finds =
      let n = listed-length m w.found in
      record {
        room = omega (arith, f.entries.within);
        marks = λ k l. f.entries.marks k (omega arith);
        records = λ k l.
            let held = f.entries.records k (omega arith) in
            let says : entry_instruction m k ≡ unwrap_or
            (read_in (record_in k (record_bytes k (entry_instruction m k)))) no_instruction = ap
            (λ o. unwrap_or (record_contents k o) no_instruction) held in (
              record_bytes k (entry_instruction m k),
              held,
              record-says k (entry_instruction m k) _ (omega (arith, f.entries.within, f.entries.fits.few)) refl says
                  ∙ ap Some (sym (listed-at m w.found k (omega arith))),
            );
        stop = λ l. subst (λ k. m.holds (mark_at k) ≡ Some (mark_bytes k) → ⊥) (sym n) (f.stop (omega arith));
      }

  promptly : IsBounded m → (h.book_kind securities).code < 256 → (h.book_kind cash).code < 256
      → 1 + 2 * w.pairs ≤ m.calls_left → (opening_view h m).mode ≡ Open
  promptly b r c calls =
      let z = scan h w.pairs (after_reads 1 m) 0 empty None in
      let ends = calls-find h w.pairs m
      (standing_list m w.found) w.standing f.entries.fits.few b finds f.entries.list (m.calls_left - 1) in
      ap (λ (v : View). v.mode)
      (then-scanned h w.pairs m f.entries.some f.entries.fits.few f.entries.fits.within
      (λ none. omega arith) r c f.entries.head)
      ∙ ap (λ r. (outcome_view r w.pairs (with_calls_left z.calls_left m) z.standing).mode)
      (ends.enough (omega arith))

-- an opening only reads

scanned-kept : (m : Medium) (pairs n : ℕ) (s : Standing) (r : Result FoundEntries Fault)
    → SameBlocks m (outcome_view r pairs (with_calls_left n m) s).medium
scanned-kept m pairs n s (Ok f) = fewer-calls m n
scanned-kept m pairs n s (Err f) = fewer-calls m n

opened-kept : (h : Rulebook) (m : Medium) (n : ℕ) (r : Result ℕ Fault)
    → SameBlocks m (view_by_header h (with_calls_left n m) r).medium
opened-kept h m n (Ok pairs) =
    let z = scan h pairs (with_calls_left n m) 0 empty None in scanned-kept m pairs z.calls_left z.standing z.outcome
opened-kept h m n (Err f) = fewer-calls m n

-- the device after the header's checks
after-checked : (m : Medium)
    → (n : ℕ) × (after_read_header m ≡ with_calls_left n m) × (0 < m.size → n ≡ m.calls_left - 1)
after-checked m =
    elim (cases_Bool (leb m.size 0)) [
      | inl z ↦
          let none = leb-true m.size 0 z in
          (m.calls_left, cond-true (leb m.size 0) m (after_reads 1 m) z, λ l. absurd (omega arith))
      | inr some ↦ (m.calls_left - 1, cond-false (leb m.size 0) m (after_reads 1 m) some, λ l. refl)
    ]

-- What an opening found on any device, where that is so, and what it leaves of the device.
module _ (h : Rulebook) (m : Medium) where
  abbrev checks : Result ℕ Fault
  checks = read_header_answer (h.book_kind securities).code (h.book_kind cash).code m

  pub opens-well : {v : View} → v ≡ opening_view h m → IsBounded m → Opens h m v v.mode
  opens-well {v} is b =
      let a = after-checked m in
      let e : v ≡ view_by_header h (with_calls_left a.0 m) checks = is ∙ ap (λ d. view_by_header h d checks) a.1 in
      subst (λ u. Opens h m u u.mode) (sym e) (headed-well h m b a.0 checks a.2 refl)

  pub opens-keeping : {v : View} → v ≡ opening_view h m → SameBlocks m v.medium
  opens-keeping {v} is =
      let a = after-checked m in
      let e : v ≡ view_by_header h (with_calls_left a.0 m) checks = is ∙ ap (λ d. view_by_header h d checks) a.1 in
      subst (λ u. SameBlocks m u.medium) (sym e) (opened-kept h m a.0 checks)

  pub opens-promptly : {v : View} → v ≡ opening_view h m → IsBounded m → (h.book_kind securities).code < 256
      → (h.book_kind cash).code < 256 → OpensIfEnoughCalls h m v.mode
  opens-promptly is b r c w f calls = ap (λ (u : View). u.mode) is ∙ promptly h m w f b r c calls
