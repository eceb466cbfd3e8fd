-- What an image means, row by row.
use Rattle.std.proofs.Common.{◌≡◌, ℕ, ◌-◌, ◌*◌, ◌^◌, ◌<◌, ◌≤◌, Bool, false, ltb, List, length, Some, None, Ok, Option, sym, refl, ap, ◌∙◌, inl, inr, arith}
use Rattle.std.proofs.lemmas.Bool.{lt-ltb, le-ltb, ltb-true, cases_Bool, cases_lt, cond-true, cond-false}
use Rattle.device.specs.Medium.{IsBounded}
use Rattle.device.specs.Calls.{admit_answer, SameElsewhere, Write}
use Rattle.device.specs.Bytes.{AreBytes}
use Rattle.images.specs.Images.{block_count, row, with_row, of_row, image_medium}
use Rattle.device.proofs.Answered.{passed}
use Rattle.device.proofs.Bytes.{cut-bytes}
use Rattle.images.proofs.Rows.{room, same-blocks, put-length, row-same, row-other, row-whole}

module _ {A : Type 0} (w : ℕ) (f : List ℕ → A) (none : A) where
  pub of-row-here : (image : List ℕ) (b : ℕ) → b < block_count w image → of_row w f none image b ≡ f (row w image b)
  of-row-here image b h = cond-true _ _ _ (lt-ltb b (block_count w image) h)

  pub of-row-past : (image : List ℕ) (b : ℕ) → block_count w image ≤ b → of_row w f none image b ≡ none
  of-row-past image b h = cond-false _ _ _ (le-ltb b (block_count w image) h)

  of-row-at : (xs ys : List ℕ) (b : ℕ) (x : A) → length ys ≡ length xs → (b < block_count w xs → f (row w ys b) ≡ x)
      → (block_count w xs ≤ b → none ≡ x) → of_row w f none ys b ≡ x
  of-row-at xs ys b x len here past =
      let e = same-blocks w xs ys len in
      elim (cases_lt b (block_count w xs)) [
        | inl l ↦ of-row-here ys b (omega (arith, e)) ∙ here l
        | inr g ↦ of-row-past ys b (omega (arith, e)) ∙ past g
      ]

  -- two images whose rows of block b f does not tell apart
  pub of-row-same : (xs ys : List ℕ) (b : ℕ) → length ys ≡ length xs
      → (b < block_count w xs → f (row w ys b) ≡ f (row w xs b)) → of_row w f none ys b ≡ of_row w f none xs b
  of-row-same xs ys b len h =
      of-row-at xs ys b _ len (λ l. h l ∙ sym (of-row-here xs b l)) (λ g. sym (of-row-past xs b g))

  pub of-row-none : (xs ys : List ℕ) (b : ℕ) → length ys ≡ length xs → (b < block_count w xs → f (row w ys b) ≡ none)
      → of_row w f none ys b ≡ none
  of-row-none xs ys b len h = of-row-at xs ys b none len h (λ g. refl)

-- what a row reads as is a block
abbrev pub Shows : ℕ → (List ℕ → Option (List ℕ)) → Type 0
Shows w shown_bytes =
    (r x : List ℕ) → length r ≡ w → AreBytes r → shown_bytes r ≡ Some x → (length x ≡ 256) × AreBytes x

module _ (w : ℕ) (shown_bytes : List ℕ → Option (List ℕ)) (is_loose : List ℕ → Bool) where
  pub bounded : Shows w shown_bytes → (image : List ℕ) (left : ℕ) → left < 2 ^ 32 → AreBytes image
      → IsBounded (image_medium w shown_bytes is_loose image left)
  bounded shows image left few bytes =
      let block : (b : ℕ) (x : List ℕ) → of_row w shown_bytes None image b ≡ Some x → (length x ≡ 256) × AreBytes x =
      λ b x e.
      elim (cases_Bool (ltb b (block_count w image))) [
        | inl t ↦
            let h = ltb-true b (block_count w image) t in
            shows (row w image b) x (row-whole w image b h) (cut-bytes image w (w * b) bytes)
            (sym (of-row-here w shown_bytes None image b h) ∙ e)
        | inr n ↦
            let no_block : None ≡ Some x = sym (cond-false (ltb b (block_count w image)) _ _ n) ∙ e in
            absurd cc
      ] in
      record {
        few = omega arith;
        calls = few;
        whole = λ b x e. (block b x e).0;
        bytes = λ b x e. (block b x e).1;
        none-held = λ b h. of-row-past w shown_bytes None image b h;
        none-loose = λ b h. of-row-past w is_loose false image b h;
      }

  -- the image with one row changed
  module _ (image : List ℕ) (b : ℕ) (r : List ℕ) (in-range : b < block_count w image) (full : length r ≡ w) where
    fits : length (with_row w image b r) ≡ length image
    fits = put-length w image b r (room w image b in-range) full

    pub put-elsewhere : (left left' : ℕ)
        → SameElsewhere (image_medium w shown_bytes is_loose image left) (image_medium w shown_bytes is_loose (with_row w image b r) left') b
    put-elsewhere left left' = record {
      size = same-blocks w image (with_row w image b r) fits;
      holds = λ k away. of-row-same w shown_bytes None image (with_row w image b r) k fits (λ _. ap shown_bytes (row-other w image b r (room w image b in-range) full k away));
      loose = λ k away. of-row-same w is_loose false image (with_row w image b r) k fits (λ _. ap is_loose (row-other w image b r (room w image b in-range) full k away));
    }

    pub put-here : of_row w shown_bytes None (with_row w image b r) b ≡ shown_bytes r
    put-here =
        let here : b < block_count w (with_row w image b r) =
        rw (same-blocks w image (with_row w image b r) fits) in-range in
        of-row-here w shown_bytes None (with_row w image b r) b here
        ∙ ap shown_bytes (row-same w image b r (room w image b in-range) full)

  -- an admitted write, by which the row reads as the bytes
  pub write-row : (image : List ℕ) (left b : ℕ) (bytes r : List ℕ)
      → admit_answer (block_count w image) left b (length bytes) ≡ Ok tt → length r ≡ w → shown_bytes r ≡ Some bytes
      → Write (image_medium w shown_bytes is_loose image left) (image_medium w shown_bytes is_loose (with_row w image b r) (left - 1)) b bytes (Ok tt)
  write-row image left b bytes r ok full is =
      let in-range = (passed (block_count w image) left b (length bytes) ok).in-range in
      record {
        answer = sym ok;
        calls_left = refl;
        elsewhere = put-elsewhere image b r in-range full left (left - 1);
        here = put-here image b r in-range full ∙ is;
      }
