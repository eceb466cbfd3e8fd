-- Rows of an image, at any width.
use Rattle.std.proofs.Common.{◌≡◌, ℕ, zero, suc, ◌+◌, ◌-◌, ◌*◌, ◌/◌, ◌<◌, ◌≤◌, min, ◌≢◌, List, length, get_or, take, drop, Vec, sym, ap, ◌∙◌, subst, inl, inr, mul_comm, mul-le-mul_left, mul-add, div-mul-le_self, arith, length-drop, length-take}
use borrow.Rule.Slice.PartMut.{put_mid}
use Rattle.std.specs.Vec.{with_items}
use Rattle.std.specs.declared.alloc.Global.{Global}
use Rattle.std.proofs.lemmas.List.{get_or-take, get_or-drop, ext_get_or, with_items_is}
use Rattle.std.proofs.lemmas.Bool.{cases_eq, cases_lt, cases_order}
use Rattle.images.specs.Splices.{splice}
use Rattle.images.specs.Images.{block_count, row, with_row, ChangesRows}
use Rattle.images.proofs.Splices.{length-splice, splice-outside, cut-outside, cut-same, mid-is}

-- a row ends where the next begins
pub row-end : (w k : ℕ) → w * (k + 1) ≡ w * k + w
row-end w k = mul-add w k 1 ∙ ap (λ (n : ℕ). w * k + n) (omega arith)

pub row-before : (w k b : ℕ) → k < b → w * k + w ≤ w * b
row-before w k b h = omega (arith, row-end w k, mul-le-mul_left {m = k + 1} {n = b} w (omega arith))

pub room : (w : ℕ) (image : List ℕ) (b : ℕ) → b < block_count w image → w * b + w ≤ length image
room w image b h =
    let l : b < length image / w = omega arith in
    omega
    (arith, row-before w b (length image / w) l, div-mul-le_self (length image) w, mul_comm (length image / w) w)

pub row-full : (w : ℕ) (image : List ℕ) (b : ℕ) → w * b + w ≤ length image → length (row w image b) ≡ w
row-full w image b h = simp (length-take, length-drop) (omega arith)

-- a row of the image is whole
pub row-whole : (w : ℕ) (image : List ℕ) (b : ℕ) → b < block_count w image → length (row w image b) ≡ w
row-whole w image b h = row-full w image b (room w image b h)

pub same-blocks : (w : ℕ) (xs ys : List ℕ) → length ys ≡ length xs → block_count w ys ≡ block_count w xs
same-blocks w xs ys e = ap (λ (n : ℕ). min (n / w) 65535) e

-- what a slice of the image shows is the row
pub slice-row : (w : ℕ) (xs s : List ℕ) (b : ℕ) → s ≡ xs → take (w * b + w - w * b) (drop (w * b) s) ≡ row w xs b
slice-row w xs s b e =
    let width : w * b + w - w * b ≡ w = omega arith in
    ap (λ (n : ℕ). take n (drop (w * b) s)) width ∙ ap (λ (zs : List ℕ). row w zs b) e

module _ (w : ℕ) (image : List ℕ) (b : ℕ) (r : List ℕ) (in-range : w * b + w ≤ length image) (full : length r ≡ w) where
  fits : w * b + length r ≤ length image
  fits = omega arith

  pub put-length : length (with_row w image b r) ≡ length image
  put-length = length-splice image (w * b) r fits

  pub row-same : row w (with_row w image b r) b ≡ r
  row-same = ap (λ (n : ℕ). take n (drop (w * b) (with_row w image b r))) (sym full) ∙ cut-same image (w * b) r fits

  pub row-other : (k : ℕ) → k ≢ b → row w (with_row w image b r) k ≡ row w image k
  row-other k away =
      cut-outside image (w * b) r fits (w * k) w
      (elim (cases_order k b) [
        | inl e ↦ absurd (away e)
        | inr (inl l) ↦ inl (row-before w k b l)
        | inr (inr g) ↦ inr (omega (arith, row-before w b k g))
      ])

  pub rest-same : (n k : ℕ) → b < n → w * n ≤ k → get_or (with_row w image b r) k 0 ≡ get_or image k 0
  rest-same n k h l = splice-outside image (w * b) r fits k (inr (omega (arith, row-before w b n h)))

-- the Vec of the image, after a write of r to the row's slice: s is what the image lent, and new what the slice holds
pub lent-put : (w : ℕ) (v : Vec ℕ Global) (s : List ℕ) (b : ℕ) (new r : List ℕ) → b < block_count w v.items
    → s ≡ v.items → new ≡ r → length r ≡ w
    → (with_items v (put_mid (w * b) (w * b + w - w * b) s new)).items ≡ with_row w v.items b r
lent-put w v s b new r h lent is full =
    let mid : put_mid (w * b) (w * b + w - w * b) s new ≡ with_row w v.items b r =
    mid-is s new (w * b) (w * b + w - w * b) (omega (arith, ap length is))
    ∙ ap (λ (zs : List ℕ). splice zs (w * b) new) lent ∙ ap (λ (zs : List ℕ). with_row w v.items b zs) is in
    with_items_is v _ (ap length mid ∙ put-length w v.items b r (room w v.items b h) full ∙ sym v.ok.0) ∙ mid

-- a byte of a row, as the image has it
row-at : (w : ℕ) (xs : List ℕ) (b k : ℕ) → k < w → get_or (row w xs b) k 0 ≡ get_or xs (w * b + k) 0
row-at w xs b k l = get_or-take w _ k 0 l ∙ get_or-drop (w * b) xs k 0

-- a row that is not yet changed is as it was
pub each-next : (w : ℕ) (f : ℕ → List ℕ → List ℕ) (n : ℕ) (xs ys : List ℕ) → ChangesRows w f n xs ys
    → row w ys n ≡ row w xs n
each-next w f n xs ys s =
    ext_get_or 0 _ _ (simp (length-take, length-drop, s.len))
    (λ k l.
    let i : k < w = omega (arith, length-take w (drop (w * n) ys)) in
    row-at w ys n k i ∙ s.rest (w * n + k) (omega arith) ∙ sym (row-at w xs n k i))

-- one more row changed, after the first n
pub each-more : (w : ℕ) (f : ℕ → List ℕ → List ℕ) (n : ℕ) (xs ys r : List ℕ) → w * n + w ≤ length xs
    → ChangesRows w f n xs ys → length r ≡ w → r ≡ f n (row w ys n) → ChangesRows w f (n + 1) xs (with_row w ys n r)
each-more w f n xs ys r h s full e =
    let in-range : w * n + w ≤ length ys = omega (arith, s.len) in
    record {
      len = put-length w ys n r in-range full ∙ s.len;
      rows = λ b l.
          elim (cases_eq b n) [
            | inl same ↦
                subst (λ (m : ℕ). row w (with_row w ys n r) m ≡ f m (row w xs m)) (sym same)
                (row-same w ys n r in-range full ∙ e ∙ ap (f n) (each-next w f n xs ys s))
            | inr away ↦ row-other w ys n r in-range full b away ∙ s.rows b (omega arith)
          ];
      rest = λ k l. rest-same w ys n r in-range full (n + 1) k (omega arith) l ∙ s.rest k (omega (arith, row-end w n));
    }

-- one row changed again, where g differs from f at that row alone
pub each-again : (w : ℕ) (f g : ℕ → List ℕ → List ℕ) (n : ℕ) (xs ys : List ℕ) (b : ℕ) (r : List ℕ) → w * n ≤ length xs
    → ChangesRows w f n xs ys → b < n → length r ≡ w → r ≡ g b (row w xs b)
    → ((k : ℕ) → k ≢ b → f k (row w xs k) ≡ g k (row w xs k)) → ChangesRows w g n xs (with_row w ys b r)
each-again w f g n xs ys b r h s lt full e others =
    let in-range : w * b + w ≤ length ys = omega (arith, s.len, row-before w b n lt) in
    record {
      len = put-length w ys b r in-range full ∙ s.len;
      rows = λ k l.
          elim (cases_eq k b) [
            | inl same ↦
                subst (λ (m : ℕ). row w (with_row w ys b r) m ≡ g m (row w xs m)) (sym same)
                (row-same w ys b r in-range full ∙ e)
            | inr away ↦ row-other w ys b r in-range full k away ∙ s.rows k l ∙ others k away
          ];
      rest = λ k l. rest-same w ys b r in-range full n k lt l ∙ s.rest k l;
    }

-- the same change, by a function that agrees with f on these rows
pub each-as : (w : ℕ) (f g : ℕ → List ℕ → List ℕ) (n : ℕ) (xs ys : List ℕ) → ChangesRows w f n xs ys
    → ((b : ℕ) → b < n → f b (row w xs b) ≡ g b (row w xs b)) → ChangesRows w g n xs ys
each-as w f g n xs ys s h = record { len = s.len; rows = λ b l. s.rows b l ∙ h b l; rest = s.rest }

-- a place in the first n rows, as a row and a place in it
place : (w i n : ℕ) → i < w * n → (b : ℕ) × (k : ℕ) × (b < n) × (k < w) × (i ≡ w * b + k)
place w i zero l = absurd (omega (arith, l))
place w i (suc n) l =
    let next : suc n ≡ n + 1 = omega arith in
    let e : w * suc n ≡ w * n + w = ap (λ (m : ℕ). w * m) next ∙ row-end w n in
    elim (cases_lt i (w * n)) [
      | inl before ↦ let p = place w i n before in (p.0, p.1, omega (arith, p.2), p.3, p.4)
      | inr from ↦ (n, i - w * n, omega arith, omega arith, omega arith)
    ]

-- an image is fixed by its rows and the bytes past them
pub each-fixed : (w : ℕ) (f : ℕ → List ℕ → List ℕ) (n : ℕ) (xs ys zs : List ℕ) → ChangesRows w f n xs ys
    → ChangesRows w f n xs zs → ys ≡ zs
each-fixed w f n xs ys zs s t =
    ext_get_or 0 ys zs (s.len ∙ sym t.len)
    (λ i _.
    elim (cases_lt i (w * n)) [
      | inl l ↦
          let p = place w i n l in
          let b = p.0 in
          let k = p.1 in
          let same : row w ys b ≡ row w zs b = s.rows b p.2 ∙ sym (t.rows b p.2) in
          let there : get_or ys (w * b + k) 0 ≡ get_or zs (w * b + k) 0 =
          sym (row-at w ys b k p.3) ∙ ap (λ (r : List ℕ). get_or r k 0) same ∙ row-at w zs b k p.3 in
          rw p.4 there
      | inr past ↦ s.rest i past ∙ sym (t.rest i past)
    ])
