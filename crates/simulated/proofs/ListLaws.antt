-- Lemmas on the list of loose blocks.
use Rattle.std.proofs.Common.{◌≡◌, ℕ, zero, suc, ◌+◌, ◌*◌, ◌<◌, ◌≤◌, Bool, true, false, cond, ◌||◌, eqb, ltb, ◌≢◌, List, [], ◌∷◌, ◌++◌, length, get_or, take, drop, Some, None, Option, Vec, vec_items, sym, refl, ap, ◌∙◌, inl, inr, arith}
use Rattle.std.specs.Simd.{first_chunks}
use Rattle.std.proofs.lemmas.List.{take_more, length_push, drop-drop}
use Rattle.std.proofs.lemmas.Bool.{false≢true, ne_eqb, eq-eqb, or_left, or_right, or_from, or_cases, both_ways, cases_Bool, cases_eq, cond-true, cond-false, cond_both, ltb-true}
use Rattle.std.specs.declared.alloc.Global.{Global}
use Rattle.images.specs.Images.{block_count, row, with_row, of_row, ChangesRows}
use Rattle.images.proofs.Rows.{row-before, row-full, each-again, each-as}
use Rattle.images.proofs.Meaning.{of-row-here}
use Rattle.simulated.specs.Rows.{is_loose, row_after_sync}
use Rattle.simulated.specs.Lists.{is_on, ListsLoose, ListsLooseIfAny, IsShort, AddsBlock, AddsIfAny, row_after_listed_sync}
use Rattle.simulated.proofs.RowLaws.{synced-firm, synced-same}

pub names-last : (xs : List ℕ) (y : ℕ) → is_on (xs ++ (y ∷ [])) y ≡ true
names-last [] y = or_left (eqb y y) false (eq-eqb y y refl)
names-last (x ∷ xs) y = or_right (eqb x y) (is_on (xs ++ (y ∷ [])) y) (names-last xs y)

pub names-more : (xs : List ℕ) (y k : ℕ) → is_on xs k ≡ true → is_on (xs ++ (y ∷ [])) k ≡ true
names-more [] y k h = absurd (false≢true h)
names-more (x ∷ xs) y k h =
    elim (or_cases (eqb x k) (is_on xs k) h) [
      | inl e ↦ or_left (eqb x k) (is_on (xs ++ (y ∷ [])) k) e
      | inr e ↦ or_right (eqb x k) (is_on (xs ++ (y ∷ [])) k) (names-more xs y k e)
    ]

pub names-other : (xs : List ℕ) (y k : ℕ) → k ≢ y → is_on (xs ++ (y ∷ [])) k ≡ is_on xs k
names-other [] y k away = or_from (eqb y k) false (ne_eqb y k (λ e. away (sym e))) refl
names-other (x ∷ xs) y k away = ap (λ (t : Bool). eqb x k || t) (names-other xs y k away)

-- a block that was not loose, at the end of a list
pub longer_added : (old new : List ℕ) (loose : Bool) (b : ℕ) → loose ≡ false → new ≡ old ++ (b ∷ [])
    → AddsBlock old new loose b
longer_added old new loose b firm e = record {
  before = λ k h. rw e (names-more old b k h);
  here = rw e (names-last old b);
  short = rw (e, firm) (omega (arith, length_push old b));
}

-- a loose block is on a list of all loose blocks
pub lists-named : (list image : List ℕ) (b : ℕ) → ListsLoose list image → b < block_count 514 image
    → is_loose (row 514 image b) ≡ true → is_on list b ≡ true
lists-named list image b h l e = h b (of-row-here 514 is_loose false image b l ∙ e)

-- how to show that a list has all loose blocks
pub lists-from : (list image : List ℕ)
    → ((b : ℕ) → b < block_count 514 image → is_loose (row 514 image b) ≡ true → is_on list b ≡ true)
    → ListsLoose list image
lists-from list image h b e =
    elim (cases_Bool (ltb b (block_count 514 image))) [
      | inl t ↦ h b (ltb-true b (block_count 514 image) t) (sym (cond-true (ltb b (block_count 514 image)) _ _ t) ∙ e)
      | inr f ↦ absurd (false≢true (sym (cond-false (ltb b (block_count 514 image)) _ _ f) ∙ e))
    ]

-- after a write to block b, the list still has all loose blocks
pub lists-noted : (list list' : Option (Vec ℕ Global)) (image image' : List ℕ) (loose : Bool) (b : ℕ)
    → AddsIfAny list list' loose b
    → ((k : ℕ) → k ≢ b → of_row 514 is_loose false image' k ≡ of_row 514 is_loose false image k)
    → ListsLooseIfAny list image → ListsLooseIfAny list' image'
lists-noted list None image image' loose b noted others h = tt
lists-noted None (Some v') image image' loose b noted others h = absurd noted
lists-noted (Some v) (Some v') image image' loose b noted others h =
    λ k e.
    elim (cases_eq k b) [
      | inl same ↦ ap (is_on (vec_items v')) same ∙ noted.here
      | inr away ↦ noted.before k (h k (sym (others k away) ∙ e))
    ]

-- a list that grows only by a block that was not loose
pub short-noted : (list list' : Option (Vec ℕ Global)) (count count' : ℕ) (loose : Bool) (b : ℕ)
    → AddsIfAny list list' loose b → IsShort list count → count' ≡ cond loose count (count + 1) → IsShort list' count'
short-noted list None count count' loose b noted h e = tt
short-noted None (Some v') count count' loose b noted h e = absurd noted
short-noted (Some v) (Some v') count count' true b noted h e = omega (arith, noted.short)
short-noted (Some v) (Some v') count count' false b noted h e = omega (arith, noted.short)

-- a sync of the next block of the list: i is its place there
module _ (size : ℕ) (xs ys list : List ℕ) (i : ℕ) (within : i < length list) (h : 514 * size ≤ length xs) (s : ChangesRows 514 (row_after_listed_sync (take i list)) size xs ys) where
  also : (k : ℕ) → k ≢ get_or list i 0
      → row_after_listed_sync (take i list) k (row 514 xs k) ≡ row_after_listed_sync (take (i + 1) list) k (row 514 xs k)
  also k away =
      ap (λ (t : Bool). cond t (row_after_sync k (row 514 xs k)) (row 514 xs k))
      (sym (ap (λ (zs : List ℕ). is_on zs k) (take_more list i 0 within) ∙ names-other (take i list) (get_or list i 0) k away))

  pub listed-more : (r : List ℕ) → get_or list i 0 < size → length r ≡ 514
      → r ≡ row_after_sync 0 (row 514 ys (get_or list i 0))
      → ChangesRows 514 (row_after_listed_sync (take (i + 1) list)) size xs (with_row 514 ys (get_or list i 0) r)
  listed-more r lt full e =
      let b = get_or list i 0 in
      let r₀ = row 514 xs b in
      let wide : length r₀ ≡ 514 = row-full 514 xs b (omega (arith, row-before 514 b size lt)) in
      let twice : row_after_sync 0 (row_after_listed_sync (take i list) b r₀) ≡ row_after_sync b r₀ =
      cond_both (is_on (take i list) b) (row_after_sync b r₀) r₀ (λ zs. row_after_sync 0 zs ≡ row_after_sync b r₀)
      (λ _. synced-same 0 (row_after_sync b r₀) (synced-firm b r₀ wide)) (λ _. refl) in
      let named : is_on (take (i + 1) list) b ≡ true =
      ap (λ (zs : List ℕ). is_on zs b) (take_more list i 0 within) ∙ names-last (take i list) b in
      each-again 514 (row_after_listed_sync (take i list)) (row_after_listed_sync (take (i + 1) list)) size xs ys b r
      h s lt full
      (e ∙ ap (row_after_sync 0) (s.rows b lt) ∙ twice ∙ sym (cond-true (is_on (take (i + 1) list) b) (row_after_sync b r₀) r₀ named)) also

  pub listed-past : size ≤ get_or list i 0 → ChangesRows 514 (row_after_listed_sync (take (i + 1) list)) size xs ys
  listed-past le =
      each-as 514 (row_after_listed_sync (take i list)) (row_after_listed_sync (take (i + 1) list)) size xs ys s
      (λ k l. also k (λ e. omega arith))

-- a block that is not on a list of all loose blocks needs no sync
pub listed-all : (size : ℕ) (xs ys list : List ℕ) → size ≡ block_count 514 xs → ListsLoose list xs
    → ChangesRows 514 (row_after_listed_sync list) size xs ys → ChangesRows 514 row_after_sync size xs ys
listed-all size xs ys list e h s =
    each-as 514 (row_after_listed_sync list) row_after_sync size xs ys s
    (λ b l.
    let r = row 514 xs b in
    elim (cases_Bool (is_on list b)) [
      | inl t ↦ cond-true (is_on list b) (row_after_sync b r) r t
      | inr f ↦
          cond-false (is_on list b) (row_after_sync b r) r f
          ∙ elim (cases_Bool (is_loose r)) [
            | inl loose ↦ absurd (both_ways (is_on list b) f (lists-named list xs b h (omega arith) loose))
            | inr firm ↦ sym (synced-same b r firm)
          ]
    ])

-- a row of the image, among the first n rows as arrays
pub chunk-row : (n : ℕ) (xs : List ℕ) (b : ℕ) (d : List ℕ) → b < n → get_or (first_chunks 514 n xs) b d ≡ row 514 xs b
chunk-row zero xs b d h = absurd (omega arith)
chunk-row (suc n) xs zero d h = refl
chunk-row (suc n) xs (suc b) d h =
    chunk-row n (drop 514 xs) b d (omega arith)
    ∙ ap (take 514) (drop-drop (514 * b) 514 xs) ∙ ap (λ (k : ℕ). take 514 (drop k xs)) (omega arith)
