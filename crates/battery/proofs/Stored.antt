-- A row with other bytes stored in it.
use Rattle.std.specs.Prelude.{◌≡◌, ℕ, ◌+◌, List, ◌∷◌, ◌++◌, length, slice_set}
use Rattle.std.proofs.Common.{ap, ◌∙◌, arith}
use borrow.Rule.Slice.PartMut.{put_mid}
use Rattle.std.proofs.lemmas.List.{drop_all, append-nil}
use Rattle.images.proofs.Splices.{store-is}

pub stored : (r bytes : List ℕ) → length r ≡ 257 → length bytes ≡ 256
    → put_mid 1 256 (slice_set r 0 0) bytes ≡ 0 ∷ bytes
stored r bytes full n =
    store-is r bytes 0 256 0 (omega arith) (omega arith)
    ∙ ap (λ (zs : List ℕ). 0 ∷ (bytes ++ zs)) (drop_all (0 + length (0 ∷ bytes)) r (omega arith))
    ∙ ap (λ (zs : List ℕ). 0 ∷ zs) (append-nil bytes)
