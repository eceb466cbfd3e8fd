-- A kind that fixes the image after a call leaves nothing open.
use Rattle.std.proofs.Common.{◌≡◌, ℕ, List, sym, ap, ◌∙◌, subst}
use Rattle.device.specs.Traces.{DeviceCall, LeavesNothingOpen}
use Rattle.images.specs.Changes.{ChangesImage}

-- what After says of the image after a call fixes it
abbrev pub DeterminesImage : (List ℕ → ℕ → DeviceCall → List ℕ → Type 0) → Type 0
DeterminesImage After =
    (call : DeviceCall) (xs : List ℕ) (left : ℕ) (ys zs : List ℕ) → After xs left call ys → After xs left call
    zs → ys ≡ zs

module _ (w most : ℕ) (After : List ℕ → ℕ → DeviceCall → List ℕ → Type 0) (fixed : DeterminesImage After) where
  -- the image and the calls left after a call
  image-made : (call : DeviceCall) (s t s' t' : List ℕ × ℕ) → ChangesImage w most After s call s'
      → ChangesImage w most After t call t' → s ≡ t → s' ≡ t'
  image-made call s t s' t' one two same =
      let also : ChangesImage w most After s call t' =
      subst (λ (u : List ℕ × ℕ). ChangesImage w most After u call t') (sym same) two in
      let image : s'.0 ≡ t'.0 = fixed call s.0 s.1 s'.0 t'.0 one.image also.image in
      let left : s'.1 ≡ t'.1 = one.calls_left ∙ sym also.calls_left in
      let pair : List ℕ → ℕ → List ℕ × ℕ = λ xs n. (xs, n) in
      ap (λ (xs : List ℕ). pair xs s'.1) image ∙ ap (pair t'.0) left

  pub image-fixed : {D : Type 0} (seen : D → List ℕ × ℕ)
      → LeavesNothingOpen seen (λ d call d'. ChangesImage w most After (seen d) call (seen d'))
  image-fixed seen call d e d' e' one two same = image-made call (seen d) (seen e) (seen d') (seen e') one two same
