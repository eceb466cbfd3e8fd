-- The accepted deeds on a table of lots: their answers, what they leave, and that it stays sound.
use Rattle.std.specs.Prelude.{◌≡◌, ℕ, ◌<◌, ◌≤◌, true, List, length, replicate, Ok, ◌==◌, ◌≢◌, slice_set, refl}
use Rattle.std.proofs.Common.{sym, ap, ◌∙◌, ⊎_elim, arith}
use Rattle.std.proofs.lemmas.List.{get_or-set_same, get_or-set_other, get_or_past, get_or-replicate, length-set, length-replicate}
use Rattle.std.proofs.lemmas.Bool.{cases_eq, cases_lt, lt-ltb, eqb-true, cases_Bool}
use Rattle.refusals.specs.declared.Refusal.{Refusal}
use Rattle.book.specs.Sums.{amount_if, is_place}
use Rattle.book.specs.Holdings.{Holdings, nothing, Deed, apply, crediting, blocking, moving}
use Rattle.book.specs.Rulings.{ruling, outcome, amount_answer, cover_answer}
use Rattle.book.proofs.Same.{holdings-same}
use Rattle.book.proofs.Change.{place-in, place-not}
use Rattle.book.proofs.Accepted.{outcome-ok, answer-ok, covers-ok, credit-fits, block-accepted, move-accepted}
use Rattle.lots.specs.declared.table.Lot.{Lot}
use Rattle.lots.specs.declared.table.Lot.TheVariants.{Unowned, Free, Blocked}
use Rattle.lots.specs.declared.table.Lots.{Lots}
use Rattle.lots.specs.Owners.{lots_kind, free_of, blocked_of, lot_at, amounts, IsWholeTable, owner_is_account, AccountsOwn}
use Rattle.lots.specs.LotLemmas.{count}
use Rattle.lots.specs.TableLemmas.{total-is}

count-none : (l : Lot) → count l ≡ 0 → l ≡ Unowned
count-none Unowned e = refl
count-none (Free owner) e = absurd (omega arith)
count-none (Blocked owner) e = absurd (omega arith)

-- the quantity is 1, and the account is the owner
sole : (owner a q : ℕ) → 0 < q → q ≤ amount_if (owner == a) 1 → (owner ≡ a) × (q ≡ 1)
sole owner a q some most =
    ⊎_elim (λ e. let o : amount_if (owner == a) 1 ≡ 1 = ap (λ t. amount_if t 1) e in (eqb-true owner a e, omega arith))
    (λ e. let o : amount_if (owner == a) 1 ≡ 0 = ap (λ t. amount_if t 1) e in absurd (omega arith))
    (cases_Bool (owner == a))

is-free : (l : Lot) (a q : ℕ) → 0 < q → q ≤ free_of l a → (l ≡ Free a) × (q ≡ 1)
is-free Unowned a q some most = absurd (omega arith)
is-free (Free owner) a q some most = let s = sole owner a q some most in (ap Free s.0, s.1)
is-free (Blocked owner) a q some most = absurd (omega arith)

is-blocked : (l : Lot) (a q : ℕ) → 0 < q → q ≤ blocked_of l a → (l ≡ Blocked a) × (q ≡ 1)
is-blocked Unowned a q some most = absurd (omega arith)
is-blocked (Free owner) a q some most = absurd (omega arith)
is-blocked (Blocked owner) a q some most = let s = sole owner a q some most in (ap Blocked s.0, s.1)

-- one lot changed: its own amounts are the new lot's, and no other item's change
amounts-set : (lots : List Lot) (I : ℕ) (l : Lot) (c : Holdings) → I < length lots
    → ((a : ℕ) → free_of l a ≡ c.free a I) → ((a : ℕ) → blocked_of l a ≡ c.blocked a I)
    → ((a i : ℕ) → (i ≢ I) → free_of (lot_at lots i) a ≡ c.free a i)
    → ((a i : ℕ) → (i ≢ I) → blocked_of (lot_at lots i) a ≡ c.blocked a i)
    → amounts (slice_set lots I l) ≡ c
amounts-set lots I l c li f b g d =
    let same : (i : ℕ) → i ≡ I → lot_at (slice_set lots I l) i ≡ l = λ i e. rw e
    (get_or-set_same lots I l Unowned li) in
    let other : (i : ℕ) → (i ≢ I) → lot_at
    (slice_set lots I l) i ≡ lot_at lots i = λ i ne. get_or-set_other lots I i l Unowned ne in
    holdings-same (amounts (slice_set lots I l)) c
    (λ a i. ⊎_elim (λ e. ap (λ x. free_of x a) (same i e) ∙ f a ∙ ap (c.free a) (sym e))
    (λ ne. ap (λ x. free_of x a) (other i ne) ∙ g a i ne) (cases_eq i I))
    (λ a i. ⊎_elim (λ e. ap (λ x. blocked_of x a) (same i e) ∙ b a ∙ ap (c.blocked a) (sym e))
    (λ ne. ap (λ x. blocked_of x a) (other i ne) ∙ d a i ne) (cases_eq i I))

pub owners-set : (lots : List Lot) (I : ℕ) (l : Lot) → I < length lots → owner_is_account l ≡ true → AccountsOwn lots
    → AccountsOwn (slice_set lots I l)
owners-set lots I l li e owned i =
    ⊎_elim (λ (w : i ≡ I). rw (w, get_or-set_same lots I l Unowned li) e)
    (λ ne. rw (get_or-set_other lots I i l Unowned ne) (owned i)) (cases_eq i I)

pub record Done (lots next : List Lot) (w : Deed) : Type 0 where
  pub answer : Ok tt ≡ ruling lots_kind (amounts lots) w
  pub after : amounts next ≡ outcome lots_kind (amounts lots) w
  pub full : IsWholeTable next
  pub owned : AccountsOwn next

module _ (book : Lots) (A I q : ℕ) where
  abbrev lots : List Lot
  lots = book.lots

  -- what the deed adds or takes, in its own item and elsewhere
  in-item : (B a : ℕ) → q ≡ 1 → amount_if (is_place B I a I) q ≡ amount_if (B == a) 1
  in-item B a e = ap (λ t. amount_if t q) (place-in B I a) ∙ ap (amount_if (B == a)) e

  elsewhere : (B a i : ℕ) → (i ≢ I) → amount_if (is_place B I a i) q ≡ 0
  elsewhere B a i ne = ap (λ t. amount_if t q) (place-not B I a i ne)

  done : (l : Lot) (w : Deed) → I < 256 → owner_is_account l ≡ true → Ok tt ≡ ruling lots_kind (amounts lots) w
      → (I < length lots → amounts (slice_set lots I l) ≡ apply (amounts lots) w) → Done lots (slice_set lots I l) w
  done l w li e ok same =
      let t : I < length lots = omega (arith, book.whole) in
      record {
        answer = ok;
        after = same t ∙ outcome-ok lots_kind (amounts lots) w ok;
        full = length-set lots I l ∙ book.whole;
        owned = owners-set lots I l t e book.owners;
      }

  pub credit-done : Ok tt ≡ ruling lots_kind (amounts lots) (crediting A I q)
      → Done lots (slice_set lots I (Free A)) (crediting A I q)
  credit-done e =
      let f = credit-fits lots_kind (amounts lots) A I q e in
      let none = count-none (lot_at lots I) (omega (arith, total-is lots book.owners I)) in
      let one : q ≡ 1 = omega arith in
      done (Free A) (crediting A I q) f.1 (lt-ltb A 64 f.0) e
      (λ t. amounts-set lots I (Free A) (apply (amounts lots) (crediting A I q)) t
      (λ a. omega (arith, ap (λ x. free_of x a) none, in-item A a one))
      (λ a. omega (arith, ap (λ x. blocked_of x a) none))
      (λ a i ne. omega (arith, elsewhere A a i ne)) (λ a i ne. refl))

  module _ (n : ℕ) (short : Refusal) (c : Ok tt ≡ cover_answer n q short) where
    pub block-done : Ok n ≡ amount_answer lots_kind (amounts lots).free A I
        → Done lots (slice_set lots I (Blocked A)) (blocking A I q)
    block-done e =
        let p = answer-ok lots_kind (amounts lots).free A I n e in
        let m = covers-ok n q short c in
        let s = is-free (lot_at lots I) A q m.0 (omega arith) in
        done (Blocked A) (blocking A I q) p.1 (lt-ltb A 64 p.0)
        (block-accepted lots_kind (amounts lots) A I q p.0 p.1 m.0 (omega arith))
        (λ t. amounts-set lots I (Blocked A) (apply (amounts lots) (blocking A I q)) t
        (λ a. omega (arith, ap (λ x. free_of x a) s.0, in-item A a s.1))
        (λ a. omega (arith, ap (λ x. blocked_of x a) s.0, in-item A a s.1))
        (λ a i ne. omega (arith, elsewhere A a i ne)) (λ a i ne. omega (arith, elsewhere A a i ne)))

    module _ (e : Ok n ≡ amount_answer lots_kind (amounts lots).blocked A I) where
      place : (A < 64) × (I < 256) × (n ≡ blocked_of (lot_at lots I) A)
      place = answer-ok lots_kind (amounts lots).blocked A I n e

      pub move-done : (B : ℕ) → B < 64 → Done lots (slice_set lots I (Free B)) (moving A B I q)
      move-done B lb =
          let m = covers-ok n q short c in
          let s = is-blocked (lot_at lots I) A q m.0 (omega (arith, place.2)) in
          done (Free B) (moving A B I q) place.1 (lt-ltb B 64 lb)
          (move-accepted lots_kind (amounts lots) A B I q place.0 lb place.1 m.0 (omega (arith, place.2)))
          (λ t. amounts-set lots I (Free B) (apply (amounts lots) (moving A B I q)) t
          (λ a. omega (arith, ap (λ x. free_of x a) s.0, in-item B a s.1))
          (λ a. omega (arith, ap (λ x. blocked_of x a) s.0, in-item A a s.1))
          (λ a i ne. omega (arith, elsewhere B a i ne)) (λ a i ne. omega (arith, elsewhere A a i ne)))

-- the table of nothing
abbrev pub fresh : List Lot
fresh = replicate 256 Unowned

at-fresh : (i : ℕ) → lot_at fresh i ≡ Unowned
at-fresh i =
    ⊎_elim (λ l. get_or-replicate 256 i Unowned Unowned l)
    (λ past. get_or_past fresh i Unowned (omega (arith, length-replicate 256 Unowned))) (cases_lt i 256)

pub fresh-nothing : amounts fresh ≡ nothing
fresh-nothing = holdings-same (amounts fresh) nothing (λ a i. ap (λ l. free_of l a) (at-fresh i))
    (λ a i. ap (λ l. blocked_of l a) (at-fresh i))

pub fresh-whole : IsWholeTable fresh
fresh-whole = length-replicate 256 Unowned

pub fresh-owners : AccountsOwn fresh
fresh-owners i = ap owner_is_account (at-fresh i)
