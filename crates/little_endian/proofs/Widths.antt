-- Little-endian numbers of every width: each way undoes the other.
use Rattle.std.proofs.Common.{◌≡◌, ℕ, zero, suc, ◌+◌, ◌*◌, ◌/◌, ◌%◌, ◌^◌, ◌<◌, ◌≤◌, List, [], ◌∷◌, length, get_or, take, drop, refl, ap, ◌∙◌, div-lt_iff_lt-mul, pow-suc, arith, lit<, drop-cons}
use Rattle.std.specs.List.{AllByRecursion}
use native.Mathlib.Nat.{mod-add-div}
use Rattle.std.proofs.lemmas.List.{drop_all}
use Rattle.little_endian.specs.Little.{le_number, le_bytes, bytes_from, EveryWidth}

pub le-bytes : (w n : ℕ) → n < 256 ^ w → le_number (le_bytes w n) ≡ n
le-bytes zero n h = omega arith
le-bytes (suc w) n h =
    let lt : n / 256 < 256 ^ w = (div-lt_iff_lt-mul (lit< tt)).1 (rw pow-suc at h) in
    ap (λ m. n % 256 + 256 * m) (le-bytes w (n / 256) lt) ∙ mod-add-div n 256

part-drop : (w i : ℕ) (bs : List ℕ) → length bs ≡ i + w → drop i bs ≡ bytes_from i w bs
part-drop zero i bs h = let l : length bs ≤ i = omega arith in drop_all i bs l
part-drop (suc w) i bs h =
    let l : i < length bs = omega arith in
    let next = part-drop w (suc i) bs (omega arith) in
    drop-cons bs i 0 l ∙ ap (λ t. get_or bs i 0 ∷ t) next

pub part-whole : (w : ℕ) (bs : List ℕ) → length bs ≡ w → bs ≡ bytes_from 0 w bs
part-whole w bs h = part-drop w 0 bs (omega arith)

-- a number with one more lowest byte, written again
byte-back : (b n w : ℕ) → b < 256 → le_bytes (suc w) (b + 256 * n) ≡ b ∷ le_bytes w n
byte-back b n w small =
    let low : (b + 256 * n) % 256 ≡ b = omega (arith, small) in
    let high : (b + 256 * n) / 256 ≡ n = omega (arith, small) in
    rw (low, high) refl

bytes-le : (bs : List ℕ) → AllByRecursion (λ b. b < 256) bs → le_bytes (length bs) (le_number bs) ≡ bs
bytes-le [] h = refl
bytes-le (b ∷ bs) h = byte-back b (le_number bs) (length bs) h.0 ∙ ap (λ t. b ∷ t) (bytes-le bs h.1)

-- the bytes from a place on, read and written again
pub part-back : (at w : ℕ) (bs : List ℕ) → ((k : ℕ) → get_or bs k 0 < 256)
    → le_bytes w (le_number (bytes_from at w bs)) ≡ bytes_from at w bs
part-back at zero bs h = refl
part-back at (suc w) bs h = byte-back (get_or bs at 0) (le_number (bytes_from (suc at) w bs)) w (h at)
    ∙ ap (λ t. get_or bs at 0 ∷ t) (part-back (suc at) w bs h)

pub every_width : EveryWidth
every_width = record { written = le-bytes; read = bytes-le }

-- the w bytes from a place on, cut out
pub part-slice : (w at : ℕ) (bs : List ℕ) → at + w ≤ length bs → take w (drop at bs) ≡ bytes_from at w bs
part-slice zero at bs h = refl
part-slice (suc w) at bs h =
    let l : at < length bs = omega arith in
    let next = part-slice w (suc at) bs (omega arith) in
    ap (take (suc w)) (drop-cons bs at 0 l) ∙ ap (λ t. get_or bs at 0 ∷ t) next
