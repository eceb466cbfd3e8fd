-- Lemmas on rows, which `impl Device for Battery` and its row format cite.
use Rattle.std.specs.Prelude.{◌≡◌, ℕ, List, ◌∷◌, length, Some, None}
use Rattle.std.proofs.Common.{sym, ap, subst, ◌∙◌, inl, inr, arith, length-take, length-drop}
use Rattle.std.proofs.lemmas.List.{take_all}
use Rattle.std.proofs.lemmas.Bool.{cases_Bool, cond-true, cond-false}
use Rattle.device.specs.declared.TheConstants.{BLOCK_SIZE}
use Rattle.device.specs.Bytes.{AreBytes}
use Rattle.images.specs.Images.{kept_bytes, is_readable, held_bytes}
use Rattle.images.proofs.Meaning.{Shows}
use Rattle.device.proofs.Bytes.{cut-bytes}
use Rattle.battery.specs.declared.row.TheConstants.{ROW}
use Rattle.battery.specs.Rows.{row_after_write}

pub full-after-write :
    (r bytes : List ℕ) → length r ≡ ROW → length bytes ≡ BLOCK_SIZE
    → length (row_after_write r bytes) ≡ ROW
full-after-write r bytes full n = omega arith

pub held-stored : (bytes : List ℕ) → length bytes ≡ BLOCK_SIZE → held_bytes (0 ∷ bytes) ≡ Some bytes
held-stored bytes n = ap Some (take_all BLOCK_SIZE bytes (omega arith))

pub reads-back :
    (r bytes : List ℕ) → length r ≡ ROW → length bytes ≡ BLOCK_SIZE
    → held_bytes (row_after_write r bytes) ≡ Some bytes
reads-back r bytes full n = held-stored bytes n

pub shows : Shows ROW held_bytes
shows r x full bytes e =
    elim (cases_Bool (is_readable r)) [
      | inl t ↦
          let is : Some x ≡ Some (kept_bytes r) = sym e ∙ cond-true (is_readable r) _ _ t in
          let same : x ≡ kept_bytes r = cc in (
            ap length same ∙ simp (length-take, length-drop) (omega arith),
            subst AreBytes (sym same) (cut-bytes r BLOCK_SIZE 1 bytes),
          )
      | inr n ↦
          let none : Some x ≡ None = sym e ∙ cond-false (is_readable r) _ _ n in
          absurd cc
    ]
