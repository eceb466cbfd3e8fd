-- Lemmas on `splice`.
use Rattle.std.proofs.Common.{◌≡◌, ℕ, ◌+◌, ◌-◌, ◌<◌, ◌≤◌, ◌⊎◌, List, [], ◌∷◌, ◌++◌, length, get_or, take, drop, set, sym, refl, ap, ◌∙◌, inl, inr, append_assoc, arith, length-append, length-drop, length-take}
use borrow.Rule.Slice.PartMut.{put_mid}
use Rattle.std.proofs.lemmas.List.{take_more_set, drop-drop, drop-set-lt, get_or_append_left, get_or-append_right, get_or-take, get_or-drop, ext_get_or}
use Rattle.device.specs.Bytes.{AreBytes}
use Rattle.images.specs.Splices.{splice}
use Rattle.device.proofs.Bytes.{cut-bytes, join-bytes, rest-bytes}

module _ (xs : List ℕ) (at : ℕ) (ys : List ℕ) (fits : at + length ys ≤ length xs) where
  pub length-splice : length (splice xs at ys) ≡ length xs
  length-splice = simp (length-append, length-take, length-drop) (omega arith)

  pub splice-before : (k : ℕ) → k < at → get_or (splice xs at ys) k 0 ≡ get_or xs k 0
  splice-before k h =
      let w : length (take at xs) ≡ at = simp length-take (omega arith) in
      let i : k < length (take at xs) = omega arith in
      get_or_append_left (take at xs) _ 0 k i ∙ get_or-take at xs k 0 h

  pub splice-inside : (k : ℕ) → k < length ys → get_or (splice xs at ys) (at + k) 0 ≡ get_or ys k 0
  splice-inside k h =
      let w : length (take at xs) ≡ at = simp length-take (omega arith) in
      let e : at + k - at ≡ k = omega arith in
      get_or-append_right (take at xs) _ at (at + k) 0 w (omega arith) ∙ rw e (get_or_append_left ys _ 0 k h)

  pub splice-after : (k : ℕ) → at + length ys ≤ k → get_or (splice xs at ys) k 0 ≡ get_or xs k 0
  splice-after k h =
      let w : length (take at xs) ≡ at = simp length-take (omega arith) in
      let e : at + length ys + (k - at - length ys) ≡ k = omega arith in
      get_or-append_right (take at xs) _ at k 0 w (omega arith)
      ∙ get_or-append_right ys _ (length ys) (k - at) 0 refl (omega arith)
      ∙ get_or-drop (at + length ys) xs (k - at - length ys) 0 ∙ ap (λ (n : ℕ). get_or xs n 0) e

  pub splice-outside : (k : ℕ) → (k < at) ⊎ (at + length ys ≤ k) → get_or (splice xs at ys) k 0 ≡ get_or xs k 0
  splice-outside k (inl h) = splice-before k h
  splice-outside k (inr h) = splice-after k h

  -- a part that the write does not meet
  pub cut-outside : (o n : ℕ) → (o + n ≤ at) ⊎ (at + length ys ≤ o)
      → take n (drop o (splice xs at ys)) ≡ take n (drop o xs)
  cut-outside o n way =
      ext_get_or 0 _ _ (simp (length-take, length-drop, length-splice))
      (λ k h.
      let i : k < n = omega (arith, length-take n (drop o (splice xs at ys))) in
      let away : (o + k < at) ⊎ (at + length ys ≤ o + k) =
      elim way [ inl a ↦ inl (omega arith) | inr b ↦ inr (omega arith) ] in
      get_or-take n _ k 0 i ∙ get_or-drop o (splice xs at ys) k 0 ∙ splice-outside (o + k) away
      ∙ sym (get_or-drop o xs k 0) ∙ sym (get_or-take n (drop o xs) k 0 i))

  -- all that was written
  length-cut : length (take (length ys) (drop at (splice xs at ys))) ≡ length ys
  length-cut = let n = length-splice in simp (length-take, length-drop, length-splice) (omega arith)

  pub cut-same : take (length ys) (drop at (splice xs at ys)) ≡ ys
  cut-same =
      ext_get_or 0 _ _ length-cut
      (λ k h.
      let i : k < length ys = omega (arith, length-cut) in
      get_or-take (length ys) _ k 0 i ∙ get_or-drop at (splice xs at ys) k 0 ∙ splice-inside k i)

pub splice-bytes : (xs : List ℕ) (at : ℕ) (ys : List ℕ) → AreBytes xs → AreBytes ys → AreBytes (splice xs at ys)
splice-bytes xs at ys hx hy =
    join-bytes (take at xs) (ys ++ drop (at + length ys) xs) (cut-bytes xs at 0 hx)
    (join-bytes ys (drop (at + length ys) xs) hy (rest-bytes xs (at + length ys) hx))

-- a write to `xs[at..]` of ys, after one byte before it
pub store-is : (xs ys : List ℕ) (at k y : ℕ) → at + 1 + length ys ≤ length xs → k ≡ length ys
    → put_mid (at + 1) k (set xs at y) ys ≡ splice xs at (y ∷ ys)
store-is xs ys at k y h e =
    let front : take (at + 1) (set xs at y) ≡ take at xs ++ y ∷ [] = take_more_set xs at y (omega arith) in
    let back : drop k (drop (at + 1) (set xs at y)) ≡ drop (at + length (y ∷ ys)) xs =
    drop-drop k (at + 1) (set xs at y) ∙ drop-set-lt (at + 1 + k) xs at y (omega arith)
    ∙ ap (λ (m : ℕ). drop m xs) (omega arith) in
    rw (front, back, append_assoc)

-- a write to `xs[at..at + k]` of ys
pub mid-is : (xs ys : List ℕ) (at k : ℕ) → k ≡ length ys → put_mid at k xs ys ≡ splice xs at ys
mid-is xs ys at k e =
    ap (λ (zs : List ℕ). take at xs ++ (ys ++ zs)) (drop-drop k at xs ∙ ap (λ (m : ℕ). drop (at + m) xs) e)
