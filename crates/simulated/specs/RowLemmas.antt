-- Lemmas on rows, which `impl Device for Simulated` and its row format cite.
use Rattle.std.specs.Prelude.{◌≡◌, ℕ, true, not, ◌⊎◌, List, [], ◌∷◌, ◌++◌, length, take, drop, Some, ◌==◌}
use Rattle.std.proofs.Common.{sym, ap, subst, ◌∙◌, inl, inr, arith, length-take, length-drop, length-append}
use Rattle.std.proofs.lemmas.Bool.{cond-true}
use Rattle.std.proofs.lemmas.List.{take_all, append_assoc, drop_at, get_or_at}
use Rattle.device.specs.declared.TheConstants.{BLOCK_SIZE}
use Rattle.device.specs.Bytes.{AreBytes}
use Rattle.images.specs.Images.{kept_bytes}
use Rattle.device.proofs.Bytes.{cut-bytes}
use Rattle.images.proofs.Meaning.{Shows}
use Rattle.simulated.specs.declared.rows.TheConstants.{ROW, LOOSE_FLAG, NEWER}
use Rattle.simulated.specs.Rows.{newer_bytes, is_loose, shown_bytes, row_after_write}

pub newer-full : (r : List ℕ) → length r ≡ ROW → length (newer_bytes r) ≡ BLOCK_SIZE
newer-full r h = simp (length-take, length-drop) (omega arith)

pub kept-full : (r : List ℕ) → length r ≡ ROW → length (kept_bytes r) ≡ BLOCK_SIZE
kept-full r h = simp (length-take, length-drop) (omega arith)

module _ (r bytes : List ℕ) (full : length r ≡ ROW) (n : length bytes ≡ BLOCK_SIZE) where
  front : length (take LOOSE_FLAG r) ≡ LOOSE_FLAG
  front = simp length-take (omega arith)

  pub written-full : length (row_after_write r bytes) ≡ ROW
  written-full = simp length-append (omega (arith, front))

  pub written-loose : is_loose (row_after_write r bytes) ≡ true
  written-loose =
      ap (λ (x : ℕ). not (x == 0)) (get_or_at (take LOOSE_FLAG r) 1 bytes 0 LOOSE_FLAG front)

  pub written-shown : shown_bytes (row_after_write r bytes) ≡ Some bytes
  written-shown =
      let d : drop NEWER (row_after_write r bytes) ≡ bytes =
      (let whole : row_after_write r bytes ≡ (take LOOSE_FLAG r ++ 1 ∷ []) ++ bytes =
      sym (append_assoc (take LOOSE_FLAG r) (1 ∷ []) bytes) in
      ap (drop NEWER) whole
      ∙ drop_at (take LOOSE_FLAG r ++ 1 ∷ []) bytes NEWER
      (simp length-append (omega (arith, front)))) in
      let e : newer_bytes (row_after_write r bytes) ≡ bytes =
      ap (take BLOCK_SIZE) d ∙ take_all BLOCK_SIZE bytes (omega arith) in
      cond-true _ _ _ written-loose ∙ ap Some e

pub shows : Shows ROW shown_bytes
shows r x full bytes e =
    let way : (x ≡ kept_bytes r) ⊎ (x ≡ newer_bytes r) = grind arith in
    elim way [
      | inl q ↦
          (ap length q ∙ kept-full r full, subst AreBytes (sym q) (cut-bytes r BLOCK_SIZE 1 bytes))
      | inr q ↦ (
        ap length q ∙ newer-full r full,
        subst AreBytes (sym q) (cut-bytes r BLOCK_SIZE NEWER bytes),
      )
    ]
