-- One holding of a table changed.
use Rattle.std.specs.Prelude.{◌≡◌, ℕ, ◌+◌, ◌-◌, ◌<◌, Bool, true, false, cond, List, [], length, get_or, ◌==◌, ◌≢◌, slice_index_or, slice_set, refl}
use Rattle.std.proofs.Common.{sym, ap, ◌∙◌, ⊎_elim, arith}
use Rattle.std.proofs.lemmas.List.{get_or-set_same, get_or-set_other, length-set}
use Rattle.std.proofs.lemmas.Bool.{cases_eq, and_left, and_right, and_from, eq-eqb, ne_eqb}
use Rattle.book.specs.declared.Holding.{Holding}
use Rattle.book.specs.Sums.{is_place}
use Rattle.book.specs.Holdings.{Holdings, apply, crediting, blocking, less_at}
use Rattle.book.proofs.Same.{holdings-same}
use Rattle.book.proofs.Change.{same-there, more-there, less-there}
use Rattle.book.specs.Rulings.{no_holding}
use Rattle.balances.specs.Rows.{holding_in, amounts, IsWholeTable}

abbrev pub put : List (List Holding) → ℕ → ℕ → Holding → List (List Holding)
put rows A I h = slice_set rows I (slice_set (slice_index_or rows I []) A h)

free-of : (t : Bool) (h g : Holding) → (cond t h g).free ≡ cond t h.free g.free
free-of true h g = refl
free-of false h g = refl

blocked-of : (t : Bool) (h g : Holding) → (cond t h g).blocked ≡ cond t h.blocked g.blocked
blocked-of true h g = refl
blocked-of false h g = refl

module _ (rows : List (List Holding)) (A I : ℕ) (h : Holding) (li : I < length rows) where
  same-row : (i : ℕ) → i ≡ I → slice_index_or (put rows A I h) i [] ≡ slice_set (slice_index_or rows I []) A h
  same-row i e = rw e (get_or-set_same rows I (slice_set (slice_index_or rows I []) A h) [] li)

  other-row : (i : ℕ) → (i ≢ I) → slice_index_or (put rows A I h) i [] ≡ slice_index_or rows i []
  other-row i ne = get_or-set_other rows I i (slice_set (slice_index_or rows I []) A h) [] ne

  pub full-put : IsWholeTable rows → IsWholeTable (put rows A I h)
  full-put full = (
    length-set rows I (slice_set (slice_index_or rows I []) A h) ∙ full.0,
    λ i l.
        ⊎_elim (λ e. ap length (same-row i e) ∙ length-set (slice_index_or rows I []) A h ∙ full.1 I (omega arith))
        (λ ne. ap length (other-row i ne) ∙ full.1 i l) (cases_eq i I),
  )

  pub at-put : A < length (slice_index_or rows I []) → (a i : ℕ)
      → holding_in (put rows A I h) a i ≡ cond (is_place A I a i) h (holding_in rows a i)
  at-put la a i =
      ⊎_elim
      (λ e. let row = ap (λ r. get_or r a no_holding) (same-row i e) in
      ⊎_elim
      (λ f. let t = and_from (A == a) (I == i) (eq-eqb A a (sym f)) (eq-eqb I i (sym e)) in
      row ∙ rw (t, f) (get_or-set_same (slice_index_or rows I []) A h no_holding la))
      (λ nf. let t = and_left (A == a) (I == i) (ne_eqb A a (λ w. nf (sym w))) in
      row ∙ rw (t, e) (get_or-set_other (slice_index_or rows I []) A a h no_holding nf))
      (cases_eq a A))
      (λ ne. let t = and_right (A == a) (I == i) (ne_eqb I i (λ w. ne (sym w))) in
      ap (λ r. get_or r a no_holding) (other-row i ne) ∙ rw t)
      (cases_eq i I)

  -- the amounts of a book that agrees with h at the place, and elsewhere with what was there
  pub amounts-put : A < length (slice_index_or rows I []) → (c : Holdings)
      → ((a i : ℕ) → cond (is_place A I a i) h.free (holding_in rows a i).free ≡ c.free a i)
      → ((a i : ℕ) → cond (is_place A I a i) h.blocked (holding_in rows a i).blocked ≡ c.blocked a i)
      → amounts (put rows A I h) ≡ c
  amounts-put la c p q =
      holdings-same (amounts (put rows A I h)) c
      (λ a i. ap (λ g. g.free) (at-put la a i) ∙ free-of (is_place A I a i) h (holding_in rows a i) ∙ p a i)
      (λ a i. ap (λ g. g.blocked) (at-put la a i) ∙ blocked-of (is_place A I a i) h (holding_in rows a i) ∙ q a i)

module _ (rows : List (List Holding)) (A I q : ℕ) (li : I < length rows)
    (la : A < length (slice_index_or rows I [])) where
  f : ℕ → ℕ → ℕ
  f = (amounts rows).free

  g : ℕ → ℕ → ℕ
  g = (amounts rows).blocked

  pub put-credit : amounts (put rows A I
      (record { free = (holding_in rows A I).free + q; blocked = (holding_in rows A I).blocked })) ≡ apply
      (amounts rows) (crediting A I q)
  unfolding f g
  put-credit = amounts-put rows A I _ li la _ (more-there f A I q) (same-there g A I q)

  pub put-block : amounts (put rows A I
      (record { free = (holding_in rows A I).free - q; blocked = (holding_in rows A I).blocked + q })) ≡ apply
      (amounts rows) (blocking A I q)
  unfolding f g
  put-block = amounts-put rows A I _ li la _ (less-there f A I q) (more-there g A I q)

  -- the first half of a transfer
  pub put-lower : amounts (put rows A I
      (record { free = (holding_in rows A I).free; blocked = (holding_in rows A I).blocked - q })) ≡ record {
        free = (amounts rows).free;
        blocked = less_at (amounts rows).blocked A I q;
      }
  unfolding f g
  put-lower = amounts-put rows A I _ li la _ (same-there f A I q) (less-there g A I q)
