-- Blocks are read back as they were written, and no mark is blank.
use Rattle.std.proofs.Common.{◌≡◌, ℕ, zero, suc, ◌+◌, ◌-◌, ◌%◌, ◌^◌, ◌<◌, ◌≤◌, Bool, true, false, cond, ◌&&◌, eqb, ltb, leb, List, [], ◌∷◌, ◌++◌, length, get_or, take, drop, replicate, Ok, Err, Result, sym, refl, ap, ◌∙◌, subst, arith, length-drop, drop-cons}
use Rattle.std.proofs.lemmas.Bool.{eq-eqb, eqb-true, lt-ltb, ltb-true, le-leb, leb-true, and_parts}
use Rattle.std.proofs.lemmas.List.{take-append-drop, drop-drop}
use Rattle.little_endian.specs.Little.{le_number, le_bytes, bytes_from}
use Rattle.little_endian.proofs.Widths.{le-bytes, part-back}
use Rattle.refusals.specs.Numbers.{number_of}
use Rattle.refusals.specs.declared.Refusal.{Refusal}
use Rattle.refusals.specs.declared.Refusal.TheVariants.{NotAHeader, Malformed}
use Rattle.instruction.specs.declared.Instruction.{Instruction}
use Rattle.instruction.specs.Layout.{instruction_in, unused_zero, number_at, Reads, IsEncodable}
use Rattle.instruction.proofs.Trips.{there, reads}
use Rattle.device.proofs.Bytes.{cut-bytes}
use Rattle.journal.specs.declared.TheConstants.{MOST_PAIRS}
use Rattle.journal.specs.declared.header.Header.{Header}
use Rattle.journal.specs.Blocks.{zeros, header_bytes, header_in, is_header, mark_bytes, is_mark, record_bytes, record_in, is_record, all_zero}
use Rattle.journal.specs.Decoding.{IsProperHeader, ReadsHeader, ReadsMark, ReadsRecord}

pub zeros-no-mark : (k : ℕ) → k < 2 ^ 32 → zeros ≡ mark_bytes k → ⊥
zeros-no-mark k h e =
    let a : 0 ≡ k % 256 = ap (λ (bs : List ℕ). get_or bs 0 0) e in
    let b : 0 ≡ (4294967295 - k) % 256 = ap (λ (bs : List ℕ). get_or bs 4 0) e in
    omega arith

-- what is written is read

pub mark-is : (k : ℕ) → k < 2 ^ 32 → is_mark k (mark_bytes k) ≡ true
mark-is k h =
    let a : eqb (le_number (le_bytes 4 k)) k ≡ true = eq-eqb _ _ (le-bytes 4 k h) in
    let b : eqb (le_number (le_bytes 4 (4294967295 - k))) (4294967295 - k) ≡ true = eq-eqb _ _
    (le-bytes 4 (4294967295 - k) (omega arith)) in
    rw (a, b)

pub record-read : (k : ℕ) (x : Instruction) → k < 2 ^ 32 → IsEncodable x → record_in k (record_bytes k x) ≡ Ok x
record-read k x h f =
    let a : eqb (le_number (le_bytes 4 k)) k ≡ true = eq-eqb _ _ (le-bytes 4 k h) in
    rw a (there x f)

pub header-read : (h : Header) → h.register < 256 → h.cash < 256 → 0 < h.pairs → h.pairs ≤ MOST_PAIRS
    → header_in (header_bytes h) ≡ Ok h
header-read h r c low high =
    let p : le_number (le_bytes 4 h.pairs) ≡ h.pairs = le-bytes 4 h.pairs (omega arith) in
    let a : ltb 0 (le_number (le_bytes 4 h.pairs)) ≡ true = lt-ltb _ _ (omega arith) in
    let b : leb (le_number (le_bytes 4 h.pairs)) MOST_PAIRS ≡ true = le-leb _ _ (omega arith) in
    rw (a, b) (λ k. Ok (record { register = h.register; cash = h.cash; pairs = p k }))

-- what is read was so written

zeros-are : (bs : List ℕ) (n : ℕ) → length bs ≡ n → all_zero bs ≡ true → replicate n 0 ≡ bs
zeros-are [] zero l h = refl
zeros-are [] (suc n) l h = absurd (omega arith)
zeros-are (b ∷ bs) zero l h = absurd (omega arith)
zeros-are (b ∷ bs) (suc n) l h =
    let p = and_parts (eqb b 0) (all_zero bs) h in
    let e = sym (eqb-true b 0 p.0) in
    let r = zeros-are bs n (omega arith) p.1 in
    λ k. e k ∷ r k

part-rest : (w i j : ℕ) (bs : List ℕ) → j ≡ i + w → j ≤ length bs → drop i bs ≡ bytes_from i w bs ++ drop j bs
part-rest zero i j bs e l = ap (λ (n : ℕ). drop n bs) (omega arith)
part-rest (suc w) i j bs e l =
    drop-cons bs i 0 (omega arith) ∙ ap (λ (t : List ℕ). get_or bs i 0 ∷ t) (part-rest w (suc i) j bs (omega arith) l)

-- a test of a reading that was passed
passed : {X : Type 0} (b : Bool) (r : Result X Refusal) (e : Refusal) (x : X) → cond b r (Err e) ≡ Ok x
    → (b ≡ true) × (r ≡ Ok x)
passed true r e x h = (refl, h)
passed false r e x h =
    absurd cc

refuses : {X : Type 0} {e : Refusal} {x : X} → ◌≡◌ {A = Result X Refusal} (Err e) (Ok x) → ⊥
refuses h =
    cc

-- a reading whose every refusal is e
refused : {X : Type 0} (b : Bool) (r : Result X Refusal) (e f : Refusal) → ((g : Refusal) → r ≡ Err g → g ≡ e)
    → Err f ≡ cond b r (Err e) → f ≡ e
refused true r e f only h = only f (sym h)
refused false r e f only h = cc

module _ (bs : List ℕ) (l : length bs ≡ 256) (small : (i : ℕ) → get_or bs i 0 < 256) where
  -- the number in four bytes, written again
  four : (at n : ℕ) → eqb (number_at at 4 bs) n ≡ true → le_bytes 4 n ≡ bytes_from at 4 bs
  four at n e = ap (le_bytes 4) (sym (eqb-true (number_at at 4 bs) n e)) ∙ part-back at 4 bs small

  rest-zero : (j n : ℕ) → j + n ≡ 256 → all_zero (drop j bs) ≡ true → replicate n 0 ≡ drop j bs
  rest-zero j n e z = zeros-are (drop j bs) n (length-drop j bs ∙ omega arith) z

  pub mark-back : (k : ℕ) → is_mark k bs ≡ true → bs ≡ mark_bytes k
  mark-back k e =
      let p = and_parts (eqb (number_at 0 4 bs) k) _ e in
      let q = and_parts (eqb (number_at 4 4 bs) (4294967295 - k)) _ p.1 in
      let a = four 0 k p.0 in
      let b = four 4 (4294967295 - k) q.0 in
      let z = rest-zero 8 248 refl q.1 in
      part-rest 8 0 8 bs refl (omega arith) ∙ sym (λ i. a i ++ (b i ++ z i))

  pub record-back : (k : ℕ) (x : Instruction) → record_in k bs ≡ Ok x → record_bytes k x ≡ bs
  record-back k x e =
      let t = passed (is_record k bs) _ Malformed x e in
      let p = and_parts (eqb (number_at 0 4 bs) k) _ t.0 in
      let q = and_parts (eqb (number_at 4 4 bs) 1) _ p.1 in
      let a = four 0 k p.0 in
      let b : le_bytes 4 1 ≡ bytes_from 4 4 bs = four 4 1 q.0 in
      let body = (subst (Reads (take 32 (drop 8 bs))) t.1
      (reads (take 32 (drop 8 bs)) (cut-bytes bs 32 8 small))).1 in
      let z = rest-zero 40 216 refl q.1 in
      (λ i. a i ++ (b i ++ (body i ++ z i)))
      ∙ ap (λ (t : List ℕ). bytes_from 0 8 bs ++ (take 32 (drop 8 bs) ++ t)) (sym (drop-drop 32 8 bs))
      ∙ ap (λ (t : List ℕ). bytes_from 0 8 bs ++ t) (take-append-drop 32 (drop 8 bs))
      ∙ sym (part-rest 8 0 8 bs refl (omega arith))

  header-back : is_header bs ≡ true
      → IsProperHeader (record { register = get_or bs 2 0; cash = get_or bs 3 0; pairs = number_at 4 4 bs })
      × (header_bytes (record { register = get_or bs 2 0; cash = get_or bs 3 0; pairs = number_at 4 4 bs }) ≡ bs)
  header-back t =
      let p = and_parts (eqb (get_or bs 0 0) 1) _ t in
      let q = and_parts (eqb (get_or bs 1 0) 2) _ p.1 in
      let r = and_parts (ltb 0 (number_at 4 4 bs)) _ q.1 in
      let s = and_parts (leb (number_at 4 4 bs) MOST_PAIRS) _ r.1 in
      let one = sym (eqb-true (get_or bs 0 0) 1 p.0) in
      let two = sym (eqb-true (get_or bs 1 0) 2 q.0) in
      let n = part-back 4 4 bs small in
      let z = rest-zero 8 248 refl s.1 in (
        record { register = small 2; cash = small 3; some = ltb-true _ _ r.0; few = leb-true _ _ s.0 },
        (λ i. one i ∷ two i ∷ get_or bs 2 0 ∷ get_or bs 3 0 ∷ (n i ++ z i))
            ∙ sym (part-rest 8 0 8 bs refl (omega arith)),
      )

pub read-header : (bs : List ℕ) (h : Header) → length bs ≡ 256 → ((i : ℕ) → get_or bs i 0 < 256)
    → header_in bs ≡ Ok h → IsProperHeader h × (header_bytes h ≡ bs)
read-header bs h l small e =
    let t = passed (is_header bs) _ NotAHeader h e in
    let is : record { register = get_or bs 2 0; cash = get_or bs 3 0; pairs = number_at 4 4 bs } ≡ h = cc in (
      subst IsProperHeader is (header-back bs l small t.0).0,
      ap header_bytes (sym is)
          ∙ (header-back bs l small t.0).1,
    )

-- both ways

pub reads-mark : (k : ℕ) (bs : List ℕ) → k < 2 ^ 32 → length bs ≡ 256 → ((i : ℕ) → get_or bs i 0 < 256)
    → ReadsMark k bs (is_mark k bs)
reads-mark k bs h l small = record { good = mark-back bs l small k; only = λ e. ap (is_mark k) e ∙ mark-is k h }

malformed : (bs : List ℕ) (e : Refusal) → instruction_in bs ≡ Err e → e ≡ Malformed
malformed bs e h =
    refused (eqb (length bs) 32 && unused_zero bs) _ Malformed e (λ g q. absurd (refuses (sym q))) (sym h)

pub reads-record : (k : ℕ) (bs : List ℕ) (r : Result Instruction Refusal) → k < 2 ^ 32 → length bs ≡ 256
    → ((i : ℕ) → get_or bs i 0 < 256) → r ≡ record_in k bs → ReadsRecord k bs r
reads-record k bs (Ok x) h l small e = record-back bs l small k x (sym e)
reads-record k bs (Err f) h l small e = (
  ap number_of (refused (is_record k bs) _ Malformed f (malformed (take 32 (drop 8 bs))) e),
  λ x fits is. refuses (e ∙ ap (record_in k) (sym is) ∙ record-read k x h fits),
)

pub reads-header : (bs : List ℕ) (r : Result Header Refusal) → length bs ≡ 256 → ((i : ℕ) → get_or bs i 0 < 256)
    → r ≡ header_in bs → ReadsHeader bs r
reads-header bs (Ok h) l small e = read-header bs h l small (sym e)
reads-header bs (Err f) l small e = (
  ap number_of (refused (is_header bs) _ NotAHeader f (λ g q. absurd (refuses (sym q))) e),
  λ h p is. refuses (e ∙ ap header_in (sym is) ∙ header-read h p.register p.cash p.some p.few),
)

-- a mark has one true test
pub same-test : (k : ℕ) (bs : List ℕ) (r t : Bool) → ReadsMark k bs r → ReadsMark k bs t → r ≡ t
same-test k bs true true a b = refl
same-test k bs true false a b = sym (b.only (a.good refl))
same-test k bs false true a b = a.only (b.good refl)
same-test k bs false false a b = refl

-- a header whose every test was passed
pub header-told : (bs : List ℕ) (n : ℕ) → get_or bs 0 0 ≡ 1 → get_or bs 1 0 ≡ 2 → n ≡ number_at 4 4 bs → 1 ≤ n
    → n ≤ MOST_PAIRS → true ≡ all_zero (drop 8 bs)
    → Ok (record { register = get_or bs 2 0; cash = get_or bs 3 0; pairs = n }) ≡ header_in bs
header-told bs n one two is low high z =
    let a : ltb 0 (number_at 4 4 bs) ≡ true = lt-ltb _ _ (omega arith) in
    let b : leb (number_at 4 4 bs) MOST_PAIRS ≡ true = le-leb _ _ (omega arith) in
    rw (one, two, a, b, sym z) (λ i. Ok (record { register = get_or bs 2 0; cash = get_or bs 3 0; pairs = is i }))

-- a record read by the record of its instruction: another stands there, or it is that one
pub record-other : (k : ℕ) (bs : List ℕ) (x : Instruction) → length bs ≡ 256 → ((i : ℕ) → get_or bs i 0 < 256)
    → instruction_in (take 32 (drop 8 bs)) ≡ Ok x
    → (bs ≡ record_bytes k x → ⊥) → Err Malformed ≡ record_in k bs
record-other k bs x l small h n = unread (is_record k bs) _
    (λ t. n
    (sym (record-back bs l small k x
    (ap (λ b. cond b (instruction_in (take 32 (drop 8 bs))) (Err Malformed)) t ∙ h))))
  where
    unread : (b : Bool) (r : Result Instruction Refusal) → (b ≡ true → ⊥) → Err Malformed ≡ cond b r (Err Malformed)
    unread true r n = absurd (n refl)
    unread false r n = refl

pub record-same : (k : ℕ) (bs : List ℕ) (x : Instruction) → k < 2 ^ 32 → instruction_in (take 32 (drop 8 bs)) ≡ Ok x
    → bs ≡ record_bytes k x → Ok x ≡ record_in k bs
record-same k bs x h i e =
    let a : eqb (le_number (le_bytes 4 k)) k ≡ true = eq-eqb _ _ (le-bytes 4 k h) in
    let good : is_record k (record_bytes k x) ≡ true = rw a refl in
    sym i ∙ sym (ap (λ t. cond t (instruction_in (take 32 (drop 8 bs))) (Err Malformed)) (ap (is_record k) e ∙ good))
