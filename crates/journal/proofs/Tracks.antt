-- The calls that a format makes, one after another.
use Rattle.std.proofs.Common.{◌≡◌, ℕ, zero, suc, ◌+◌, ◌<◌, ◌≤◌, false, List, [], ◌∷◌, ◌++◌, length, take, sym, refl, ap, ◌∙◌, add-one, inl, inr, arith}
use Rattle.std.proofs.lemmas.Bool.{cases_eq, cond-false}
use Rattle.std.proofs.lemmas.List.{take_all, length-append, append_assoc}
use Rattle.std.proofs.Math.Seq.{take-append_seam}
use Rattle.device.specs.Traces.{DeviceCall, writing, syncing, IsTrace}
use Rattle.device.proofs.Traces.{traced-last, traced-on, traced-off}
use Rattle.journal.specs.Blocks.{zeros}
use Rattle.journal.specs.Journal.{mark_at}
use Rattle.journal.specs.Format.{no_room, mark_writes, format_calls}

pub more-marks : (n : ℕ) → mark_writes (n + 1) ≡ mark_writes n ++ (writing (mark_at n) zeros ∷ [])
unfolding mark_writes
more-marks n = ap mark_writes (add-one n)

pub no-marks : mark_writes 0 ≡ []
unfolding mark_writes
no-marks = refl

pub mark-count : (n : ℕ) → length (mark_writes n) ≡ n
unfolding mark_writes
mark-count zero = refl
mark-count (suc n) = length-append (mark_writes n) (writing (mark_at n) zeros ∷ []) ∙ omega (arith, mark-count n)

-- the first n of more calls are the writes of the first n marks
pub first-marks : (n m : ℕ) (zs : List DeviceCall) → n ≤ m → take n (mark_writes m ++ zs) ≡ mark_writes n
first-marks n zero zs l =
    let e : n ≡ 0 = omega arith in
    ap (λ (k : ℕ). take k (mark_writes 0 ++ zs)) e ∙ sym no-marks ∙ ap mark_writes (sym e)
first-marks n (suc m) zs l =
    elim (cases_eq n (suc m)) [
      | inl e ↦
          let count : n ≡ length (mark_writes (suc m)) = e ∙ sym (mark-count (suc m)) in
          ap (λ (k : ℕ). take k (mark_writes (suc m) ++ zs)) count ∙ take-append_seam (mark_writes (suc m)) zs
          ∙ ap mark_writes (sym e)
      | inr d ↦
          let last = writing (mark_at m) zeros ∷ [] in
          ap (λ (ws : List DeviceCall). take n (ws ++ zs)) (ap mark_writes (sym (add-one m)) ∙ more-marks m)
          ∙ ap (take n) (append_assoc (mark_writes m) last zs) ∙ first-marks n m (last ++ zs) (omega arith)
    ]

module _ {D : Type 0} (makes : D → DeviceCall → D → Type 0) (d₀ d₁ d₂ : D) where
  -- the mark of one entry more
  pub mark-more : (k : ℕ) → IsTrace makes (mark_writes k) d₀ d₁ → makes d₁ (writing (mark_at k) zeros) d₂
      → IsTrace makes (mark_writes (k + 1)) d₀ d₂
  mark-more k t m = rw (more-marks k) (traced-last makes (mark_writes k) (writing (mark_at k) zeros) d₀ d₁ d₂ t m)

  -- no call was left for the mark of entry k
  pub marks-cut : (k pairs left : ℕ) → left ≡ k → k < pairs → IsTrace makes (mark_writes k) d₀ d₁
      → makes d₁ (writing (mark_at k) zeros) d₂
      → IsTrace makes (take (left + 1) (mark_writes pairs ++ (syncing ∷ []))) d₀ d₂
  marks-cut k pairs left e l t m =
      let n : left + 1 ≡ k + 1 = omega arith in
      let made : take (left + 1) (mark_writes pairs ++ (syncing ∷ [])) ≡ mark_writes (k + 1) =
      ap (λ (i : ℕ). take i (mark_writes pairs ++ (syncing ∷ []))) n
      ∙ first-marks (k + 1) pairs (syncing ∷ []) (omega arith) in
      rw made (mark-more k t m)

  -- all marks were written, and a sync was asked for
  pub marks-synced : (pairs left : ℕ) → pairs ≤ left → IsTrace makes (mark_writes pairs) d₀ d₁ → makes d₁ syncing d₂
      → IsTrace makes (take (left + 1) (mark_writes pairs ++ (syncing ∷ []))) d₀ d₂
  marks-synced pairs left l t m =
      let count = length-append (mark_writes pairs) (syncing ∷ []) in
      let all = take_all (left + 1) (mark_writes pairs ++ (syncing ∷ [])) (omega (arith, count, mark-count pairs)) in
      rw all (traced-last makes (mark_writes pairs) syncing d₀ d₁ d₂ t m)

-- a header written and synced, and the marks and their sync
abbrev put : List ℕ → List DeviceCall
put bytes = writing 0 bytes ∷ syncing ∷ []

abbrev blank : ℕ → List DeviceCall
blank pairs = mark_writes pairs ++ (syncing ∷ [])

blank-count : (pairs : ℕ) → length (blank pairs) ≡ pairs + 1
blank-count pairs = omega (arith, length-append (mark_writes pairs) (syncing ∷ []), mark-count pairs)

module _ (header : List ℕ) (pairs size left : ℕ) where
  by-steps : no_room pairs size ≡ false
      → format_calls header pairs size left ≡ take (left + 1) (put zeros ++ (blank pairs ++ put header))
  by-steps room =
      cond-false _ _ _ room
      ∙ ap (λ (cs : List DeviceCall). take (left + 1) (put zeros ++ cs))
      (sym (append_assoc (mark_writes pairs) (syncing ∷ []) (put header)))

  module _ (room : no_room pairs size ≡ false) {D : Type 0} (makes : D → DeviceCall → D → Type 0) (d₀ d₁ : D)
      (one : IsTrace makes (take (left + 1) (put zeros)) d₀ d₁) where
    -- the calls lasted to the zeros in place of the header,
    pub track-first : left < 2 → IsTrace makes (format_calls header pairs size left) d₀ d₁
    track-first l = rw (by-steps room) (traced-off makes (put zeros) (blank pairs ++ put header) left d₀ d₁ l one)

    module _ (left₁ : ℕ) (spent : left ≡ left₁ + 2) (d₂ : D)
        (two : IsTrace makes (take (left₁ + 1) (blank pairs)) d₁ d₂) where
      -- or to those in place of the marks,
      pub track-second : left₁ ≤ pairs → IsTrace makes (format_calls header pairs size left) d₀ d₂
      track-second l =
          let short = traced-off makes (blank pairs) (put header) left₁ d₁ d₂
          (omega (arith, blank-count pairs)) two in
          rw (by-steps room)
          (traced-on makes (put zeros) (blank pairs ++ put header) left left₁ d₀ d₁ d₂ spent one short)

      -- or to the header
      pub track-all : (left₂ : ℕ) → left₁ ≡ left₂ + (pairs + 1) → (d₃ : D)
          → IsTrace makes (take (left₂ + 1) (put header)) d₂ d₃
          → IsTrace makes (format_calls header pairs size left) d₀ d₃
      track-all left₂ less d₃ three =
          let rest = traced-on makes (blank pairs) (put header) left₁ left₂ d₁ d₂ d₃
          (omega (arith, less, blank-count pairs)) two three in
          rw (by-steps room)
          (traced-on makes (put zeros) (blank pairs ++ put header) left left₁ d₀ d₁ d₃ spent one rest)
