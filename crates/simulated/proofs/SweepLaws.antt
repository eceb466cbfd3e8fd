-- Lemmas on a sync and a restart of a whole image.
use Rattle.std.proofs.Common.{◌≡◌, ℕ, zero, suc, ◌+◌, ◌*◌, ◌<◌, ◌≤◌, Bool, true, false, cond, List, [], length, get_or, drop, Some, None, Option, IsSomeAnd, MatchOption, Vec, Iter, Bor, vec_items, sym, refl, ap, ◌∙◌, inl, inr, add-one, arith}
use Rattle.std.proofs.lemmas.Bool.{false≢true, cases_Bool, cases_eq, cond_both, cond-true, cond-false}
use Rattle.std.specs.declared.alloc.Global.{Global}
use Rattle.std.specs.Option.{option_copied, unwrap_or}
use Rattle.std.specs.Slice.Iter.{iter_steps, iter_rest}
use Rattle.std.proofs.lemmas.List.{drop_all, drop-drop, get_or_past}
use Rattle.images.specs.Images.{block_count, row, with_row, of_row, ChangesRows}
use Rattle.images.proofs.Rows.{row-same, row-other, row-whole}
use Rattle.images.proofs.Meaning.{of-row-here, of-row-same, of-row-none}
use Rattle.simulated.specs.Rows.{is_loose, shown_bytes, row_after_sync, loose_count, row_after_restart}
use Rattle.simulated.specs.Lists.{ListsLooseIfAny, IsShort}
use Rattle.simulated.proofs.RowLaws.{keeping-full, keeping-firm, synced-firm, synced-shown, revived-any}

pub loose-more : (xs : List ℕ) (b : ℕ)
    → loose_count xs (b + 1) ≡ cond (is_loose (row 514 xs b)) (loose_count xs b + 1) (loose_count xs b)
loose-more xs b = ap (loose_count xs) (add-one b)

module _ (xs rem : List ℕ) (b : ℕ) (r : List ℕ) (full : length r ≡ 514) where
  pub restarted-full : length (row_after_restart xs rem b r) ≡ 514
  restarted-full =
      cond_both (is_loose r) _ _ (λ zs. length zs ≡ 514)
      (λ _. revived-any (λ zs. length zs ≡ 514) (get_or rem (loose_count xs b) 0) r full (λ flag bytes n. keeping-full r bytes flag full n)) (λ _. full)

  restarted-firm : is_loose (row_after_restart xs rem b r) ≡ false
  restarted-firm =
      cond_both (is_loose r) _ _ (λ zs. is_loose zs ≡ false)
      (λ _. revived-any (λ zs. is_loose zs ≡ false) (get_or rem (loose_count xs b) 0) r full (λ flag bytes n. keeping-firm r bytes flag full n)) (λ f. f)

-- a write that makes a block loose: one more is loose, if the block was not
module _ (image : List ℕ) (b : ℕ) (r : List ℕ) (in-range : 514 * b + 514 ≤ length image) (full : length r ≡ 514) (loose : is_loose r ≡ true) where
  loose-below : (n : ℕ) → n ≤ b → loose_count (with_row 514 image b r) n ≡ loose_count image n
  loose-below zero h = refl
  loose-below (suc n) h =
      let other = row-other 514 image b r in-range full n (λ e. omega arith) in
      let before = loose-below n (omega arith) in
      ap (λ (m : ℕ). cond (is_loose (row 514 (with_row 514 image b r) n)) (m + 1) m) before
      ∙ ap (λ (s : List ℕ). cond (is_loose s) (loose_count image n + 1) (loose_count image n)) other

  pub loose-put : (n : ℕ) → b < n
      → loose_count (with_row 514 image b r) n ≡ cond (is_loose (row 514 image b)) (loose_count image n) (loose_count image n + 1)
  loose-put zero h = absurd (omega arith)
  loose-put (suc n) h =
      let image' = with_row 514 image b r in
      elim (cases_eq n b) [
        | inl same ↦
            let here : is_loose (row 514 image' n) ≡ true =
            ap (λ (k : ℕ). is_loose (row 514 image' k)) same ∙ ap is_loose (row-same 514 image b r in-range full)
            ∙ loose in
            let was : is_loose (row 514 image n) ≡ is_loose (row 514 image b) =
            ap (λ (k : ℕ). is_loose (row 514 image k)) same in
            cond-true (is_loose (row 514 image' n)) (loose_count image' n + 1) (loose_count image' n) here
            ∙ ap (λ (m : ℕ). m + 1) (loose-below n (omega arith))
            ∙ elim (cases_Bool (is_loose (row 514 image b))) [
              | inl t ↦ rw (was, t) refl
              | inr f ↦ rw (was, f) refl
            ]
        | inr away ↦
            let past = loose-put n (omega arith) in
            ap (λ (s : List ℕ). cond (is_loose s) (loose_count image' n + 1) (loose_count image' n))
            (row-other 514 image b r in-range full n away)
            ∙ ap (λ (m : ℕ). cond (is_loose (row 514 image n)) (m + 1) m) past
            ∙ elim (cases_Bool (is_loose (row 514 image b))) [
              | inl t ↦ rw t refl
              | inr f ↦
                  rw f
                  (cond_both (is_loose (row 514 image n)) _ _ (λ m. cond (is_loose (row 514 image n)) (loose_count image n + 1 + 1) (loose_count image n + 1) ≡ m + 1)
                  (λ t. cond-true _ _ _ t) (λ f'. cond-false _ _ _ f'))
            ]
      ]

-- a list of an image with no loose block may be empty
pub lists-none : (list : Option (Vec ℕ Global)) (image : List ℕ)
    → ((k : ℕ) → of_row 514 is_loose false image k ≡ false) → ListsLooseIfAny list image
lists-none None image h = tt
lists-none (Some v) image h = λ b e. absurd (false≢true (sym (h b) ∙ e))

pub short-none : (list : Option (Vec ℕ Global)) (n : ℕ) → IsSomeAnd list (λ v. vec_items v ≡ []) → IsShort list n
short-none None n h = tt
short-none (Some v) n h = omega (arith, ap length h)

module _ (xs ys : List ℕ) (s : ChangesRows 514 row_after_sync (block_count 514 xs) xs ys) where
  pub sync-holds : (k : ℕ) → of_row 514 shown_bytes None ys k ≡ of_row 514 shown_bytes None xs k
  sync-holds k =
      of-row-same 514 shown_bytes None xs ys k s.len
      (λ h. ap shown_bytes (s.rows k h) ∙ synced-shown k (row 514 xs k) (row-whole 514 xs k h))

  pub sync-firm : (k : ℕ) → of_row 514 is_loose false ys k ≡ false
  sync-firm k =
      of-row-none 514 is_loose false xs ys k s.len
      (λ h. ap is_loose (s.rows k h) ∙ synced-firm k (row 514 xs k) (row-whole 514 xs k h))

module _ (xs ys rem : List ℕ) (s : ChangesRows 514 (row_after_restart xs rem) (block_count 514 xs) xs ys) where
  pub restart-holds : (k : ℕ) → of_row 514 is_loose false xs k ≡ false
      → of_row 514 shown_bytes None ys k ≡ of_row 514 shown_bytes None xs k
  restart-holds k firm =
      of-row-same 514 shown_bytes None xs ys k s.len
      (λ h.
      let f : is_loose (row 514 xs k) ≡ false = sym (of-row-here 514 is_loose false xs k h) ∙ firm in
      ap shown_bytes (s.rows k h ∙ cond-false (is_loose (row 514 xs k)) _ _ f))

  pub restart-firm : (k : ℕ) → of_row 514 is_loose false ys k ≡ false
  restart-firm k =
      of-row-none 514 is_loose false xs ys k s.len
      (λ h. ap is_loose (s.rows k h) ∙ restarted-firm xs rem k (row 514 xs k) (row-whole 514 xs k h))

-- the next byte of the remains, or 0 past their end
pub next-byte : (s t : Iter ℕ) (r : Option (Bor ℕ)) → iter_steps s r t
    → unwrap_or (option_copied r) 0 ≡ get_or (iter_rest s) 0 0
next-byte s t None h = sym (get_or_past (iter_rest s) 0 0 (omega (arith, h.0)))
next-byte s t (Some x) h = sym (ap (λ (zs : List ℕ). get_or zs 0 0) h)

pub next-rest : (s t : Iter ℕ) (r : Option (Bor ℕ)) → iter_steps s r t → iter_rest t ≡ drop 1 (iter_rest s)
next-rest s t None h =
    ap iter_rest h.1 ∙ drop_all 0 (iter_rest s) (omega (arith, h.0))
    ∙ sym (drop_all 1 (iter_rest s) (omega (arith, h.0)))
next-rest s t (Some x) h = sym (ap (drop 1) h)

pub ruleset next_taken = (next-byte, next-rest)

-- what is left of the remains at the next block
pub taken-more : (xs rem : List ℕ) (b : ℕ)
    → cond (is_loose (row 514 xs b)) (drop 1 (drop (loose_count xs b) rem)) (drop (loose_count xs b) rem) ≡ drop (loose_count xs (b + 1)) rem
taken-more xs rem b =
    cond_both (is_loose (row 514 xs b)) _ _ (λ n. n ≡ drop (loose_count xs (b + 1)) rem)
    (λ t. drop-drop 1 (loose_count xs b) rem ∙ ap (λ (n : ℕ). drop n rem) (sym (loose-more xs b ∙ cond-true (is_loose (row 514 xs b)) _ _ t)))
    (λ f. ap (λ (n : ℕ). drop n rem) (sym (loose-more xs b ∙ cond-false (is_loose (row 514 xs b)) _ _ f)))

-- whether the row of a block was loose, as it was seen
pub seen-loose : (seen : Option (Bor (List ℕ))) (r : List ℕ) (t : Bool) (size b : ℕ)
    → MatchOption seen (t ≡ false) (λ x. t ≡ is_loose x.now) → MatchOption seen (size ≤ b) (λ x. x.now ≡ r) → b < size
    → is_loose r ≡ t
seen-loose None r t size b h is l = absurd (omega arith)
seen-loose (Some x) r t size b h is l = ap is_loose (sym is) ∙ sym h
