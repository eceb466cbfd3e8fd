-- Lists of calls, to a device of any kind.
use Rattle.std.proofs.Common.{◌≡◌, ℕ, ◌+◌, ◌<◌, min, List, [], ◌∷◌, ◌++◌, length, take, sym, refl, ap, ◌∙◌, subst, inl, inr, arith}
use Rattle.std.proofs.lemmas.Bool.{cases_lt}
use Rattle.std.proofs.lemmas.Fn.{FoldsTo-push}
use Rattle.std.proofs.lemmas.List.{take-append-le, take_all}
use Rattle.std.proofs.Math.Seq.{take-append-add}
use Rattle.device.specs.Traces.{DeviceCall, IsTrace, LeavesNothingOpen}

module _ {D : Type 0} (makes : D → DeviceCall → D → Type 0) where
  pub traced-one : (call : DeviceCall) (d e : D) → makes d call e → IsTrace makes (call ∷ []) d e
  traced-one call d e m = (e, m, refl)

  -- one more call at the end
  pub traced-last : (calls : List DeviceCall) (call : DeviceCall) (d e f : D) → IsTrace makes calls d e
      → makes e call f → IsTrace makes (calls ++ call ∷ []) d f
  traced-last calls call d e f t m = FoldsTo-push makes d calls e call f t m

  -- one list of calls after another
  pub traced-append : (xs ys : List DeviceCall) (d e f : D) → IsTrace makes xs d e → IsTrace makes ys e f
      → IsTrace makes (xs ++ ys) d f
  traced-append [] ys d e f s t = subst (λ (x : D). IsTrace makes ys x f) (sym s) t
  traced-append (x ∷ xs) ys d e f s t = (s.0, s.1, traced-append xs ys s.0 e f s.2 t)

  -- Calls of which each spends one, up to the one that finds none left: all of xs were made, and then those of ys.
  pub traced-on : (xs ys : List DeviceCall) (left left' : ℕ) (d e f : D) → left ≡ left' + length xs
      → IsTrace makes (take (left + 1) xs) d e → IsTrace makes (take (left' + 1) ys) e f
      → IsTrace makes (take (left + 1) (xs ++ ys)) d f
  traced-on xs ys left left' d e f spent s t =
      let all : take (left + 1) xs ≡ xs = take_all (left + 1) xs (omega arith) in
      let n : left + 1 ≡ length xs + (left' + 1) = omega arith in
      let both : take (left + 1) (xs ++ ys) ≡ xs ++ take (left' + 1) ys =
      ap (λ (k : ℕ). take k (xs ++ ys)) n ∙ take-append-add xs ys (left' + 1) in
      rw both (traced-append xs (take (left' + 1) ys) d e f (rw all at s) t)

  -- the same where one of xs found none left
  pub traced-off : (xs ys : List DeviceCall) (left : ℕ) (d e : D) → left < length xs
      → IsTrace makes (take (left + 1) xs) d e → IsTrace makes (take (left + 1) (xs ++ ys)) d e
  traced-off xs ys left d e short t = rw (take-append-le (left + 1) xs ys (omega arith)) t

  -- The first n of such calls were made, where the calls left were enough for n, or n are all.
  pub traced-lasting : (calls : List DeviceCall) (left n : ℕ) (d e : D) → n ≡ min (left + 1) (length calls)
      → IsTrace makes (take n calls) d e → IsTrace makes (take (left + 1) calls) d e
  traced-lasting calls left n d e lasts t =
      elim (cases_lt (length calls) (left + 1)) [
        | inl l ↦
            let one : take n calls ≡ calls = take_all n calls (omega arith) in
            let other : take (left + 1) calls ≡ calls = take_all (left + 1) calls (omega arith) in
            subst (λ (cs : List DeviceCall). IsTrace makes cs d e) (one ∙ sym other) t
        | inr g ↦ let same : n ≡ left + 1 = omega arith in subst (λ (k : ℕ). IsTrace makes (take k calls) d e) same t
      ]

  module _ {S : Type 0} (seen : D → S) where
    -- a kind that leaves nothing open fixes what a list of calls leads to
    pub traced-fixed : LeavesNothingOpen seen makes → (calls : List DeviceCall) (d e d' e' : D)
        → IsTrace makes calls d d' → IsTrace makes calls e e' → seen d ≡ seen e → seen d' ≡ seen e'
    traced-fixed fixed [] d e d' e' s t same = sym (ap seen s) ∙ same ∙ ap seen t
    traced-fixed fixed (c ∷ cs) d e d' e' s t same =
        traced-fixed fixed cs s.0 t.0 d' e' s.2 t.2 (fixed c d e s.0 t.0 s.1 t.1 same)
