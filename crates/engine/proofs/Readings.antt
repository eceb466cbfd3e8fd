-- The reads of an opening, in order.
use Rattle.std.proofs.Common.{◌≡◌, ℕ, zero, suc, ◌+◌, ◌-◌, ◌*◌, ◌<◌, ◌≤◌, Bool, true, false, ltb, List, [], ◌∷◌, ◌++◌, length, take, Some, None, Ok, Err, Option, Result, sym, refl, ap, ◌∙◌, subst, add-one, length-append, append-nil, arith}
use Rattle.std.proofs.lemmas.Bool.{cond-true, cond-false, lt-ltb, le-ltb}
use Rattle.std.proofs.lemmas.List.{take_all}
use Rattle.refusals.specs.declared.Fault.{Fault}
use Rattle.instruction.specs.declared.Instruction.{Instruction}
use Rattle.rulebook.specs.Rules.{Rulebook, Standing, fault_answer}
use Rattle.device.specs.Medium.{Medium}
use Rattle.device.specs.Traces.{DeviceCall, IsTrace}
use Rattle.device.proofs.Traces.{traced-append, traced-on}
use Rattle.journal.specs.Journal.{record_at, mark_at}
use Rattle.engine.specs.Recovery.{rules_answer, answer_by_record, answer_by_mark, entry_answer}
use Rattle.journal.specs.Entries.{after_reads, block_read, read_mark_answer, read_record_answer}
use Rattle.journal.proofs.ReadAnswers.{mark-refused, mark-spends, record-names, record-spends}
use Rattle.engine.specs.View.{View}
use Rattle.engine.specs.Opening.{refused_view, opening_view}
use Rattle.engine.specs.Tracing.{entry_reads, list_reads, refused_reads, view_reads, opening_calls}

allowed-names : (k : ℕ) (x : Instruction) (r : Result (Unit {0}) Fault) (f : Fault) → rules_answer k x r ≡ Err f
    → f.entry ≡ Some k
allowed-names k x (Ok u) f e = absurd cc
allowed-names k x (Err g) f e = cc

module _ (h : Rulebook) (s : Standing) (k : ℕ) where
  ruled-names : (r : Result Instruction Fault) (f : Fault) → ((g : Fault) → r ≡ Err g → g.entry ≡ Some k)
      → answer_by_record h s k r ≡ Err f → f.entry ≡ Some k
  ruled-names (Ok x) f names e = allowed-names k x (fault_answer h s x) f e
  ruled-names (Err g) f names e = names f (cc)

  marked-names : (m : Medium) (r : Result Bool Fault) (f : Fault) → ((g : Fault) → r ≡ Err g → g.entry ≡ Some k)
      → answer_by_mark h m s k r ≡ Err f → f.entry ≡ Some k
  marked-names m (Ok true) f names e =
      ruled-names (read_record_answer (after_reads 1 m) k) f (λ g. record-names (after_reads 1 m) k g) e
  marked-names m (Ok false) f names e = absurd cc
  marked-names m (Err g) f names e = names f cc

  pub entry-names : (m : Medium) (f : Fault) → Err f ≡ entry_answer h m s k → f.entry ≡ Some k
  entry-names m f e = marked-names m (read_mark_answer m k) f (λ g q. (mark-refused m k g (sym q)).1) (sym e)

length-reads : (n : ℕ) → length (entry_reads n) ≡ 2 * n
unfolding entry_reads
length-reads zero = refl
length-reads (suc n) =
    length-append (entry_reads n) (block_read (mark_at n) ∷ block_read (record_at n) ∷ [])
    ∙ omega (arith, length-reads n)

entry-reads-more : (n : ℕ)
    → entry_reads (n + 1) ≡ entry_reads n ++ (block_read (mark_at n) ∷ block_read (record_at n) ∷ [])
unfolding entry_reads
entry-reads-more n = rw (add-one n) refl

no-entry-reads : entry_reads 0 ≡ []
unfolding entry_reads
no-entry-reads = refl

module _ {D : Type 0} (makes : D → DeviceCall → D → Type 0) where
  -- a list of calls that there were enough calls for
  all-made : (left : ℕ) (calls : List DeviceCall) (d e : D) → length calls ≤ left + 1 → IsTrace makes calls d e
      → IsTrace makes (take (left + 1) calls) d e
  all-made left calls d e l t =
      subst (λ (cs : List DeviceCall). IsTrace makes cs d e) (sym (take_all (left + 1) calls l)) t

  -- the reads of an entry, by what stopped them: the mark is not good,
  pub mark-read : (left k : ℕ) {d e : D} → IsTrace makes (block_read (mark_at k) ∷ []) d e
      → IsTrace makes (take (left + 1) (block_read (mark_at k) ∷ [])) d e
  mark-read left k {d} {e} t = all-made left (block_read (mark_at k) ∷ []) d e (omega arith) t

  -- it finds no call left,
  pub mark-cut : (left k : ℕ) {d e : D} → left ≡ 0 → IsTrace makes (block_read (mark_at k) ∷ []) d e
      → IsTrace makes (take (left + 1) (block_read (mark_at k) ∷ block_read (record_at k) ∷ [])) d e
  mark-cut left k {d} {e} none t =
      subst (λ n. IsTrace makes (take (n + 1) (block_read (mark_at k) ∷ block_read (record_at k) ∷ [])) d e)
      (sym none) t

  -- or the record was read too
  pub both-read : (left k : ℕ) {d e f : D} → 0 < left → IsTrace makes (block_read (mark_at k) ∷ []) d e
      → IsTrace makes (block_read (record_at k) ∷ []) e f
      → IsTrace makes (take (left + 1) (block_read (mark_at k) ∷ block_read (record_at k) ∷ [])) d f
  both-read left k {d} {e} {f} some s t =
      all-made left (block_read (mark_at k) ∷ block_read (record_at k) ∷ []) d f (omega arith)
      (traced-append makes (block_read (mark_at k) ∷ []) (block_read (record_at k) ∷ []) d e f s t)

  nothing-made : (left : ℕ) (d : D) → IsTrace makes (take (left + 1) []) d d
  nothing-made left d = all-made left [] d d (omega arith) refl

  -- the first k entries were read whole
  pub record ReadWhole (left k left' : ℕ) (d e : D) : Type 0 where
    pub calls : IsTrace makes (take (left + 1) (entry_reads k)) d e
    pub spent : left ≡ left' + 2 * k

  pub none-read : (left : ℕ) (d : D) → ReadWhole left 0 left d d
  none-read left d =
      record {
        calls = subst (λ (cs : List DeviceCall). IsTrace makes (take (left + 1) cs) d d) (sym no-entry-reads)
            (nothing-made left d);
        spent = omega arith;
      }

  -- and then more was read
  module _ {left k left' : ℕ} {d e : D} (w : ReadWhole left k left' d e) (f : D) where
    then-read : (calls : List DeviceCall) → IsTrace makes (take (left' + 1) calls) e f
        → IsTrace makes (take (left + 1) (entry_reads k ++ calls)) d f
    then-read calls t =
        traced-on makes (entry_reads k) calls left left' d e f (omega (arith, w.spent, length-reads k)) w.calls t

    both-more : IsTrace makes (take (left' + 1) (block_read (mark_at k) ∷ block_read (record_at k) ∷ [])) e f
        → IsTrace makes (take (left + 1) (entry_reads (k + 1))) d f
    both-more t =
        subst (λ (cs : List DeviceCall). IsTrace makes (take (left + 1) cs) d f) (sym (entry-reads-more k))
        (then-read (block_read (mark_at k) ∷ block_read (record_at k) ∷ []) t)

    pub entry-more : 2 ≤ left'
        → IsTrace makes (take (left' + 1) (block_read (mark_at k) ∷ block_read (record_at k) ∷ [])) e f
        → ReadWhole left (k + 1) (left' - 2) d f
    entry-more l t = record { calls = both-more t; spent = omega (arith, w.spent) }

    pub list-refused : (fault : Fault) → fault.entry ≡ Some k
        → IsTrace makes (take (left' + 1) (block_read (mark_at k) ∷ block_read (record_at k) ∷ [])) e f
        → IsTrace makes (take (left + 1) (refused_reads fault.entry)) d f
    list-refused fault names t =
        subst (λ o. IsTrace makes (take (left + 1) (refused_reads o)) d f) (sym names) (both-more t)

    pub list-stopped : (pairs : ℕ) → k < pairs → IsTrace makes (take (left' + 1) (block_read (mark_at k) ∷ [])) e f
        → IsTrace makes (take (left + 1) (list_reads k pairs)) d f
    list-stopped pairs l t =
        let more : list_reads k pairs ≡ entry_reads k ++ (block_read (mark_at k) ∷ []) = ap
        (λ (cs : List DeviceCall). entry_reads k ++ cs) (cond-true (ltb k pairs) _ _ (lt-ltb k pairs l)) in
        subst (λ (cs : List DeviceCall). IsTrace makes (take (left + 1) cs) d f) (sym more)
        (then-read (block_read (mark_at k) ∷ []) t)

  pub list-whole : {left k left' : ℕ} {d e : D} → ReadWhole left k left' d e → (pairs : ℕ) → pairs ≤ k
      → IsTrace makes (take (left + 1) (list_reads k pairs)) d e
  list-whole {left} {k} {left'} {d} {e} w pairs l =
      let more : list_reads k pairs ≡ entry_reads k ++ [] = ap (λ (cs : List DeviceCall). entry_reads k ++ cs)
      (cond-false (ltb k pairs) _ _ (le-ltb k pairs l)) in
      subst (λ (cs : List DeviceCall). IsTrace makes (take (left + 1) cs) d e)
      (sym (more ∙ append-nil (entry_reads k))) w.calls

-- the calls that an entry took
module _ (h : Rulebook) (s : Standing) (k : ℕ) where
  ruled-from : (x : Instruction) (r : Result Instruction Fault) → answer_by_record h s k r ≡ Ok (Some x)
      → (y : Instruction) × (r ≡ Ok y)
  ruled-from x (Ok y) e = (y, refl)
  ruled-from x (Err f) e = absurd cc

  marked-two : (m : Medium) (x : Instruction) (r : Result Bool Fault) → r ≡ read_mark_answer m k
      → answer_by_mark h m s k r ≡ Ok (Some x) → 2 ≤ m.calls_left
  marked-two m x (Ok true) is e =
      let one = mark-spends m k true is in
      let y = ruled-from x (read_record_answer (after_reads 1 m) k) e in
      let two = record-spends (after_reads 1 m) k y.0 (sym y.1) in
      omega arith
  marked-two m x (Ok false) is e = let o : ◌≡◌ {A = Option Instruction} None (Some x) = cc in absurd cc
  marked-two m x (Err f) is e = absurd cc

  pub entry-two : (m : Medium) (x : Instruction) → Ok (Some x) ≡ entry_answer h m s k → 2 ≤ m.calls_left
  entry-two m x e = marked-two m x (read_mark_answer m k) refl (sym e)

module _ {D : Type 0} (makes : D → DeviceCall → D → Type 0) where
  -- the header alone
  pub header-read : (left : ℕ) (f : Fault) {d e : D} → f.entry ≡ None → IsTrace makes (block_read 0 ∷ []) d e
      → IsTrace makes (take (left + 1) (block_read 0 ∷ refused_reads f.entry)) d e
  header-read left f {d} {e} none t =
      subst (λ o. IsTrace makes (take (left + 1) (block_read 0 ∷ refused_reads o)) d e) (sym none)
      (all-made makes left (block_read 0 ∷ []) d e (omega arith) t)

  -- the header, and what is read after it
  pub header-then : (left : ℕ) (calls : List DeviceCall) (d e f : D) → 0 < left
      → IsTrace makes (block_read 0 ∷ []) d e → IsTrace makes (take (left - 1 + 1) calls) e f
      → IsTrace makes (take (left + 1) (block_read 0 ∷ calls)) d f
  header-then left calls d e f some s t =
      traced-on makes (block_read 0 ∷ []) calls left (left - 1) d e f (omega arith)
      (all-made makes left (block_read 0 ∷ []) d e (omega arith) s) t

  -- by the view of the engine
  pub refused-traced : (left : ℕ) (v : View) (f : Fault) (m : Medium) (d e : D) → v ≡ refused_view f m
      → IsTrace makes (take (left + 1) (refused_reads f.entry)) d e
      → IsTrace makes (take (left + 1) (view_reads v.mode v)) d e
  refused-traced left v f m d e is t =
      subst (λ (u : View). IsTrace makes (take (left + 1) (view_reads u.mode u)) d e) (sym is) t

  pub opening-traced : (h : Rulebook) (m : Medium) (v : View) (d e : D) → v ≡ opening_view h m
      → IsTrace makes (take (m.calls_left + 1) (block_read 0 ∷ view_reads v.mode v)) d e
      → IsTrace makes (opening_calls h m) d e
  opening-traced h m v d e is t =
      subst (λ (u : View). IsTrace makes (take (m.calls_left + 1) (block_read 0 ∷ view_reads u.mode u)) d e) is t
