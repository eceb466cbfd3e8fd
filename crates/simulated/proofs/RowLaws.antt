-- Lemmas on rows after a write, a sync and a restart.
use Rattle.std.specs.Prelude.{◌≡◌, ℕ, ◌+◌, false, ◌≢◌, List, [], ◌∷◌, ◌++◌, length, take, drop, set, replicate, Some, ◌==◌, slice_index, slice_set}
use Rattle.std.proofs.Common.{sym, ap, ◌∙◌, inl, inr, arith, length-take, length-drop, length-append}
use borrow.Rule.Slice.PartMut.{put_mid}
use Rattle.std.proofs.lemmas.Bool.{cases_Bool, cond_both, cond-true, cond-false, ne_eqb, eq-eqb, not_from_true}
use Rattle.std.proofs.lemmas.List.{take_all, drop_more, set_at, drop_all, append-nil, take_at, get_or_at, length-replicate}
use Rattle.images.specs.Splices.{splice}
use Rattle.images.specs.Images.{kept_bytes, is_readable}
use Rattle.images.proofs.Splices.{store-is}
use Rattle.simulated.specs.Rows.{newer_bytes, is_loose, shown_bytes, row_after_write, firm_row, row_after_sync, torn_bytes, revived_row}
use Rattle.simulated.specs.RowLemmas.{newer-full, kept-full}

unflagged : (r : List ℕ) → slice_index r 257 ≡ 0 → is_loose r ≡ false
unflagged r h = not_from_true _ (eq-eqb (slice_index r 257) 0 h)

pub keeping-is : (r bytes : List ℕ) (flag : ℕ) → length r ≡ 514 → length bytes ≡ 256
    → slice_set (put_mid 1 256 (slice_set r 0 flag) bytes) 257 0 ≡ firm_row flag bytes r
keeping-is r bytes flag full n =
    let s : splice r 0 (flag ∷ bytes) ≡ (flag ∷ bytes) ++ drop 257 r =
    (let q : 0 + length (flag ∷ bytes) ≡ 257 = omega arith in ap (λ (m : ℕ). (flag ∷ bytes) ++ drop m r) q) in
    let d : drop 257 r ≡ slice_index r 257 ∷ drop 258 r = drop_more r 257 0 (omega arith) in
    let t : newer_bytes r ≡ drop 258 r = take_all 256 (drop 258 r) (simp length-drop (omega arith)) in
    let one : put_mid 1 256 (slice_set r 0 flag) bytes ≡ (flag ∷ bytes) ++ (slice_index r 257 ∷ drop 258 r) =
    store-is r bytes 0 256 flag (omega arith) (omega arith) ∙ s ∙ ap (λ (zs : List ℕ). (flag ∷ bytes) ++ zs) d in
    ap (λ (zs : List ℕ). set zs 257 0) one
    ∙ set_at (flag ∷ bytes) (slice_index r 257) (drop 258 r) 0 257 (omega arith)
    ∙ ap (λ (zs : List ℕ). flag ∷ (bytes ++ (0 ∷ zs))) (sym t)

pub written_is : (r bytes : List ℕ) → length r ≡ 514 → length bytes ≡ 256
    → put_mid 258 256 (slice_set r 257 1) bytes ≡ row_after_write r bytes
written_is r bytes full n =
    let d : drop (257 + length (1 ∷ bytes)) r ≡ [] = drop_all _ r (omega arith) in
    store-is r bytes 257 256 1 (omega arith) (omega arith) ∙ ap (λ (zs : List ℕ). take 257 r ++ ((1 ∷ bytes) ++ zs)) d
    ∙ ap (λ (zs : List ℕ). take 257 r ++ zs) (append-nil (1 ∷ bytes))

module _ (r bytes : List ℕ) (flag : ℕ) (full : length r ≡ 514) (n : length bytes ≡ 256) where
  pub keeping-full : length (firm_row flag bytes r) ≡ 514
  keeping-full = let k = newer-full r full in simp length-append (omega arith)

  pub keeping-firm : is_loose (firm_row flag bytes r) ≡ false
  keeping-firm = unflagged (firm_row flag bytes r) (get_or_at (flag ∷ bytes) 0 (newer_bytes r) 0 257 (omega arith))

module _ (b : ℕ) (r : List ℕ) (full : length r ≡ 514) where
  pub synced-full : length (row_after_sync b r) ≡ 514
  synced-full =
      cond_both (is_loose r) _ _ (λ zs. length zs ≡ 514)
      (λ _. keeping-full r (newer_bytes r) 0 full (newer-full r full)) (λ _. full)

  pub synced-firm : is_loose (row_after_sync b r) ≡ false
  synced-firm =
      cond_both (is_loose r) _ _ (λ zs. is_loose zs ≡ false)
      (λ _. keeping-firm r (newer_bytes r) 0 full (newer-full r full)) (λ f. f)

  pub synced-shown : shown_bytes (row_after_sync b r) ≡ shown_bytes r
  synced-shown =
      elim (cases_Bool (is_loose r)) [
        | inl t ↦
            let e : row_after_sync b r ≡ firm_row 0 (newer_bytes r) r = cond-true (is_loose r) _ r t in
            let f = keeping-firm r (newer_bytes r) 0 full (newer-full r full) in
            let k : kept_bytes (firm_row 0 (newer_bytes r) r) ≡ newer_bytes r =
            take_at (newer_bytes r) (0 ∷ newer_bytes r) 256 (newer-full r full) in
            ap shown_bytes e ∙ cond-false _ _ _ f ∙ ap Some k ∙ sym (cond-true (is_loose r) _ _ t)
        | inr f ↦ ap shown_bytes (cond-false (is_loose r) _ r f)
      ]

pub synced-same : (b : ℕ) (r : List ℕ) → is_loose r ≡ false → row_after_sync b r ≡ r
synced-same b r f = cond-false (is_loose r) _ r f

torn-full : (r : List ℕ) → length r ≡ 514 → length (torn_bytes r) ≡ 256
torn-full r full =
    let k = kept-full r full in
    let n = newer-full r full in
    simp (length-append, length-take, length-drop) (omega arith)

-- what holds of every firm row holds of the row that a restart makes
pub revived-any : (P : List ℕ → Type 0) (v : ℕ) (r : List ℕ) → length r ≡ 514
    → ((flag : ℕ) (bytes : List ℕ) → length bytes ≡ 256 → P (firm_row flag bytes r)) → P (revived_row v r)
revived-any P v r full h =
    let k = kept-full r full in
    cond_both (v == 0) _ _ P (λ _. h (slice_index r 0) (kept_bytes r) k)
    (λ _. cond_both (v == 1) _ _ P (λ _. h 0 (newer_bytes r) (newer-full r full))
    (λ _. cond_both (v == 2) _ _ P (λ _. h 1 (kept_bytes r) k)
    (λ _. cond_both (v == 3) _ _ P
    (λ _. cond_both (is_readable r) _ _ P (λ _. h 0 (torn_bytes r) (torn-full r full)) (λ _. h 1 (kept_bytes r) k))
    (λ _. h 0 (replicate 256 v) (length-replicate 256 v)))))

pub revived-fill : (v : ℕ) (r : List ℕ) → v ≢ 0 → v ≢ 1 → v ≢ 2 → v ≢ 3
    → revived_row v r ≡ firm_row 0 (replicate 256 v) r
revived-fill v r a b c d =
    cond-false _ _ _ (ne_eqb v 0 a) ∙ cond-false _ _ _ (ne_eqb v 1 b) ∙ cond-false _ _ _ (ne_eqb v 2 c)
    ∙ cond-false _ _ _ (ne_eqb v 3 d)

pub revived-lost : (r : List ℕ) → slice_index r 0 ≢ 0 → revived_row 3 r ≡ firm_row 1 (kept_bytes r) r
revived-lost r h = cond-false _ _ _ (ne_eqb (slice_index r 0) 0 h)
