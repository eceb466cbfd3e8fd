-- Bytes, cut and joined.
use Rattle.std.proofs.Common.{ℕ, ◌+◌, ◌-◌, List, ◌++◌, length, take, drop, refl, inl, inr, arith, lit<, length-take}
use Rattle.std.proofs.lemmas.List.{get_or_append_left, get_or-append_right, get_or-take, get_or-drop, get_or_past}
use Rattle.std.proofs.lemmas.Bool.{cases_lt}
use Rattle.device.specs.Bytes.{AreBytes}

pub cut-bytes : (xs : List ℕ) (n o : ℕ) → AreBytes xs → AreBytes (take n (drop o xs))
cut-bytes xs n o h k =
    elim (cases_lt k n) [
      | inl l ↦ rw (get_or-take n (drop o xs) k 0 l, get_or-drop o xs k 0) (h (o + k))
      | inr g ↦ rw (get_or_past (take n (drop o xs)) k 0 (omega (arith, length-take n (drop o xs)))) (lit< tt)
    ]

pub join-bytes : (xs ys : List ℕ) → AreBytes xs → AreBytes ys → AreBytes (xs ++ ys)
join-bytes xs ys hx hy k =
    elim (cases_lt k (length xs)) [
      | inl l ↦ rw (get_or_append_left xs ys 0 k l) (hx k)
      | inr g ↦ rw (get_or-append_right xs ys (length xs) k 0 refl g) (hy (k - length xs))
    ]

pub rest-bytes : (xs : List ℕ) (n : ℕ) → AreBytes xs → AreBytes (drop n xs)
rest-bytes xs n h k = rw (get_or-drop n xs k 0) (h (n + k))
