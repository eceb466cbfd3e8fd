-- A journal outlasts every call of its device and a loss of power, whatever the entries are.
use Rattle.std.proofs.Common.{◌≡◌, ℕ, ◌+◌, ◌<◌, ◌≤◌, false, ◌⊎◌, List, [], ◌∷◌, ◌++◌, length, get_or, Some, None, Option, sym, refl, ap, ◌∙◌, inl, inr, ⊎_elim, arith, ext_get_or}
use Rattle.std.proofs.lemmas.Bool.{cases_order, cases_lt, cases_eq}
use Rattle.std.proofs.lemmas.List.{length_push, get_or_push, get_or_append_left}
use Rattle.device.specs.Medium.{Medium}
use Rattle.device.specs.Calls.{SameBlocks}
use Rattle.device.specs.Power.{Restart}
use Rattle.journal.specs.Journal.{JournalBlocks, HoldsFirmly, mark_at, record_at, MarkIsGood, MarkIsFirmlyBad, TailIs, Says, Journal, WritesEntry}

-- a block that is not loose keeps what it holds, and stays so
abbrev pub Steady : Medium → Medium → ℕ → Type 0
Steady m n c = m.loose c ≡ false → (n.holds c ≡ m.holds c) × (n.loose c ≡ false)

steady-restart : (m n : Medium) (q top : ℕ) → Restart m n q top → (c : ℕ) → Steady m n c
steady-restart m n q top r c e = (r.holds c e, r.loose c)

steady-look : (m n : Medium) → SameBlocks m n → (c : ℕ) → Steady m n c
steady-look m n r c e = (r.holds c, r.loose c ∙ e)

firm-stays : (m n : Medium) (c : ℕ) (bs : List ℕ) → Steady m n c → HoldsFirmly m c bs → HoldsFirmly n c bs
firm-stays m n c bs s f = let t = s f.1 in (t.0 ∙ f.0, t.1)

module _ {X : Type 0} (L : JournalBlocks X) where
  -- what an opening that reads all of its journal finds
  pub record Found (m : Medium) (ys : List X) : Type 0 where
    pub room : length ys ≤ L.pairs
    pub marks : (k : ℕ) → k < length ys → MarkIsGood L m k
    pub records : (k : ℕ) → k < length ys
        → (bs : List ℕ) × (m.holds (record_at k) ≡ Some bs) × (L.read k bs ≡ Some (get_or ys k L.filler))
    pub stop : length ys < L.pairs → MarkIsGood L m (length ys) → ⊥

  blank-stays : (m n : Medium) (k : ℕ) → Steady m n (mark_at k) → MarkIsFirmlyBad L m k → MarkIsFirmlyBad L n k
  blank-stays m n k s b = let t = s b.1 in (λ g. b.0 (sym t.0 ∙ g), t.1)

  says-stays : (m n : Medium) (k : ℕ) (x : X) → Steady m n (record_at k) → Says L m k x → Says L n k x
  says-stays m n k x s f = (f.0, firm-stays m n (record_at k) f.0 s f.1, f.2)

  -- all blocks but those of the first unused pair keep what they hold
  carried : (m n : Medium) (xs : List X) (hand next : Option X)
      → ((c : ℕ) → (c ≡ record_at (length xs) → ⊥) → (c ≡ mark_at (length xs) → ⊥) → Steady m n c)
      → Journal L m xs hand → TailIs L n (length xs) next → Journal L n xs next
  carried m n xs hand next s j t =
      record {
        head = firm-stays m n 0 L.header (s 0 (omega arith) (omega arith)) j.head;
        room = j.room;
        records = λ k l. says-stays m n k _ (s (record_at k) (omega arith) (omega arith)) (j.records k l);
        marks = λ k l. firm-stays m n (mark_at k) _ (s (mark_at k) (omega arith) (omega arith)) (j.marks k l);
        beyond = λ k l h. blank-stays m n k (s (mark_at k) (omega arith) (omega arith)) (j.beyond k l h);
        tail = t;
      }

  retold : (m : Medium) (xs : List X) (hand next : Option X) → Journal L m xs hand → TailIs L m (length xs) next
      → Journal L m xs next
  retold m xs hand next j t = carried m m xs hand next (λ c a b e. (refl, e)) j t

  -- record and mark of one more entry stand
  one-more : (m : Medium) (xs : List X) (x : X) (hand : Option X) → length xs < L.pairs → Journal L m xs hand
      → Says L m (length xs) x → HoldsFirmly m (mark_at (length xs)) (L.mark (length xs))
      → Journal L m (xs ++ (x ∷ [])) None
  one-more m xs x hand l j f g =
      let p = length_push xs x in
      record {
        head = j.head;
        room = omega arith;
        records = λ k h.
            ⊎_elim (λ (e : k ≡ length xs). rw (get_or_push xs x L.filler k (sym e), e) f)
            (λ o. ⊎_elim (λ (h' : k < length xs). rw (get_or_append_left xs (x ∷ []) L.filler k h') (j.records k h'))
            (λ (h' : length xs < k). absurd (omega arith)) o)
            (cases_order k (length xs));
        marks = λ k h.
            ⊎_elim (λ (e : k ≡ length xs). rw e g)
            (λ o. ⊎_elim (λ (h' : k < length xs). j.marks k h') (λ (h' : length xs < k). absurd (omega arith)) o)
            (cases_order k (length xs));
        beyond = λ k a b. j.beyond k (omega arith) b;
        tail = λ b. rw p (j.beyond (length xs + 1) (omega arith) (omega arith));
      }

  module _ (m n : Medium) (xs : List X) (x : X) (room : length xs < L.pairs)
      (fits : L.read (length xs) (L.record_for (length xs) x) ≡ Some x)
      (e : WritesEntry (L.record_for (length xs) x) (L.mark (length xs)) (length xs) m n) where
    around : (c : ℕ) → (c ≡ record_at (length xs) → ⊥) → (c ≡ mark_at (length xs) → ⊥) → Steady m n c
    around c a b f = (e.holds c a b, e.loose c a b f)

    recorded : 1 < m.calls_left → Says L n (length xs) x
    recorded l = (L.record_for (length xs) x, (e.new_record (omega arith), e.new_record-firm l), fits)

    -- an entry that was cut short is in hand
    pub entry-cut : Journal L m xs None → m.calls_left < 4 → Journal L n xs (Some x)
    entry-cut j l =
        carried m n xs None (Some x) around j (
          room,
          ⊎_elim (λ (low : m.calls_left < 2). inl
              (blank-stays m n (length xs) (λ f. (e.old_mark low, e.old_mark-firm low f)) (j.tail room)))
              (λ (high : 2 ≤ m.calls_left). inr (recorded (omega arith), inl (omega (arith, e.calls_left))))
              (cases_lt m.calls_left 2),
        )

    -- one that was not has joined the list
    pub entry-made : Journal L m xs None → 3 < m.calls_left → Journal L n (xs ++ (x ∷ [])) None
    entry-made j l =
        let says = recorded (omega arith) in
        let held = carried m n xs None (Some x) around j (room, inr (says, inr (e.firm l (mark_at (length xs))))) in
        one-more n xs x (Some x) room held says (e.new_mark (omega arith), e.firm l (mark_at (length xs)))

  pub restarting : (m n : Medium) (q top : ℕ) (xs : List X) (hand : Option X) → Journal L m xs hand
      → Restart m n q top → Journal L n xs hand
  restarting m n q top xs None j r =
      carried m n xs None None (λ c a b. steady-restart m n q top r c) j
      (λ l. blank-stays m n (length xs) (steady-restart m n q top r (mark_at (length xs))) (j.tail l))
  restarting m n q top xs (Some x) j r =
      carried m n xs (Some x) (Some x) (λ c a b. steady-restart m n q top r c) j (
        j.tail.0,
        ⊎_elim (λ b. inl (blank-stays m n (length xs) (steady-restart m n q top r (mark_at (length xs))) b))
            (λ f. inr (
              says-stays m n (length xs) x (steady-restart m n q top r (record_at (length xs))) f.0,
              inr
                  (r.loose (mark_at (length xs))),
            ))
            j.tail.1,
      )

  -- reads change nothing but the calls left
  pub looking : (m n : Medium) (xs : List X) (hand : Option X) → Journal L m xs hand → SameBlocks m n
      → n.calls_left ≤ m.calls_left → Journal L n xs hand
  looking m n xs None j r l =
      carried m n xs None None (λ c a b. steady-look m n r c) j
      (λ h. blank-stays m n (length xs) (steady-look m n r (mark_at (length xs))) (j.tail h))
  looking m n xs (Some x) j r l =
      carried m n xs (Some x) (Some x) (λ c a b. steady-look m n r c) j (
        j.tail.0,
        ⊎_elim (λ b. inl (blank-stays m n (length xs) (steady-look m n r (mark_at (length xs))) b))
            (λ f. inr (
              says-stays m n (length xs) x (steady-look m n r (record_at (length xs))) f.0,
              ⊎_elim
                  (λ z. inl (omega arith)) (λ z. inr (r.loose _ ∙ z)) f.1,
            ))
            j.tail.1,
      )

  one-reading : (m : Medium) (k : ℕ) (y x : X)
      → (bs : List ℕ) × (m.holds (record_at k) ≡ Some bs) × (L.read k bs ≡ Some y) → Says L m k x → y ≡ x
  one-reading m k y x a b =
      let p = a.1 in
      let q = b.1.0 in
      let r = a.2 in
      let s = b.2 in
      cc

  -- what is found agrees with the list, entry by entry
  agree : (m : Medium) (xs ys : List X) (hand : Option X) → Journal L m xs hand → Found m ys → (k : ℕ)
      → k < length xs → k < length ys → get_or ys k L.filler ≡ get_or xs k L.filler
  agree m xs ys hand j f k lx ly = one-reading m k _ _ (f.records k ly) (j.records k lx)

  -- nothing that stands is missed
  not-short : (m : Medium) (xs ys : List X) (hand : Option X) → Journal L m xs hand → Found m ys
      → length xs ≤ length ys
  not-short m xs ys hand j f =
      ⊎_elim (λ (l : length ys < length xs). absurd (f.stop (omega (arith, j.room)) (j.marks (length ys) l).0))
      (λ g. g) (cases_lt (length ys) (length xs))

  same-list : (m : Medium) (xs ys : List X) (hand : Option X) → Journal L m xs hand → Found m ys
      → length ys ≡ length xs → ys ≡ xs
  same-list m xs ys hand j f e = ext_get_or L.filler ys xs e (λ k l. agree m xs ys hand j f k (omega arith) l)

  -- with one in hand, at most one more
  one-at-most : (m : Medium) (xs ys : List X) (x : X) → Journal L m xs (Some x) → Found m ys
      → length ys ≤ length xs + 1
  one-at-most m xs ys x j f =
      ⊎_elim (λ (l : length xs + 1 < length ys). absurd
      ((j.beyond (length xs + 1) (omega arith) (omega (arith, f.room))).0 (f.marks (length xs + 1) l)))
      (λ g. g) (cases_lt (length xs + 1) (length ys))

  settled-down : (m : Medium) (xs : List X) (x : X) → Journal L m xs (Some x) → 0 < m.calls_left
      → m.loose (mark_at (length xs)) ≡ false
  settled-down m xs x j l =
      ⊎_elim (λ b. b.1) (λ f. ⊎_elim (λ (z : m.calls_left ≡ 0). absurd (omega arith)) (λ c. c) f.1) j.tail.1

  dropped : (m : Medium) (xs ys : List X) (x : X) → Journal L m xs (Some x) → 0 < m.calls_left → Found m ys
      → length ys ≡ length xs → Journal L m xs None
  dropped m xs ys x j l f e =
      retold m xs (Some x) None j (λ h. (λ g. f.stop (omega arith) (rw e g), settled-down m xs x j l))

  taken : (m : Medium) (xs ys : List X) (x : X) → Journal L m xs (Some x) → 0 < m.calls_left → Found m ys
      → length ys ≡ length xs + 1 → (ys ≡ xs ++ (x ∷ [])) × Journal L m (xs ++ (x ∷ [])) None
  taken m xs ys x j l f e =
      ⊎_elim (λ b. absurd (b.0 (f.marks (length xs) (omega arith))))
      (λ q.
      let p = length_push xs x in
      let n = length xs in
      let last : get_or ys n L.filler ≡ x = one-reading m n _ _ (f.records n (omega arith)) q.0 in (
        ext_get_or L.filler ys (xs ++ (x ∷ [])) (omega arith) (λ k h.
            ⊎_elim (λ (w : k ≡ n). ap (λ v. get_or ys v L.filler) w ∙ last ∙ sym (get_or_push xs x L.filler k (sym w)))
            (λ o. ⊎_elim
            (λ (w : k < n). agree m xs ys (Some x) j f k w h ∙ sym (get_or_append_left xs (x ∷ []) L.filler k w))
            (λ (w : n < k). absurd (omega arith)) o)
            (cases_order k n)),
        one-more m xs x (Some x) j.tail.0 j q.0 (f.marks n (omega arith), settled-down m xs x j l),
      ))
      j.tail.1

  -- with one in hand, an opening finds the list or the list and it
  pub found-one : (m : Medium) (xs ys : List X) (x : X) → Found m ys → Journal L m xs (Some x) → 0 < m.calls_left
      → ((ys ≡ xs) ⊎ (ys ≡ xs ++ (x ∷ []))) × Journal L m ys None
  found-one m xs ys x f j l =
      let a = not-short m xs ys (Some x) j f in
      let b = one-at-most m xs ys x j f in
      ⊎_elim (λ (e : length ys ≡ length xs). let s = same-list m xs ys (Some x) j f e in
      (inl s, rw s (dropped m xs ys x j l f e)))
      (λ ne. let t = taken m xs ys x j l f (omega arith) in (inr t.0, rw t.0 t.1))
      (cases_eq (length ys) (length xs))

  -- a journal with nothing in hand is found
  pub idle-found : (m : Medium) (xs : List X) → Journal L m xs None → Found m xs
  idle-found m xs j =
      record {
        room = j.room;
        marks = λ k h. (j.marks k h).0;
        records = λ k h. let q = j.records k h in (q.0, q.1.0, q.2);
        stop = λ h. (j.tail h).0;
      }
