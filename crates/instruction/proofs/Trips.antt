-- Writing and reading an instruction undo each other.
use Rattle.std.proofs.Common.{◌≡◌, ℕ, zero, suc, ◌+◌, ◌/◌, ◌%◌, ◌^◌, ◌<◌, Bool, true, false, cond, ◌&&◌, eqb, List, ◌∷◌, ◌++◌, length, get_or, Ok, Err, sym, refl, ap, ◌∙◌, subst, pow-suc, arith}
use Rattle.std.proofs.Math.Nat.{div-div-eq-div-mul, div-one, mul_comm}
use Rattle.std.proofs.lemmas.Bool.{eqb-true, and_parts}
use Rattle.little_endian.specs.Little.{le_bytes, bytes_from}
use Rattle.little_endian.proofs.Widths.{le-bytes, part-back, part-whole}
use Rattle.refusals.specs.declared.Refusal.TheVariants.{Malformed}
use Rattle.instruction.specs.declared.Instruction.{Instruction}
use Rattle.instruction.specs.Layout.{bytes_of, instruction_in, fields_in, unused_zero, IsInstruction, LiesAt, IsLaidOut, Reads, IsEncodable}

pub there : (i : Instruction) → IsEncodable i → instruction_in (bytes_of i) ≡ Ok i
there i f =
    let a = le-bytes 2 i.account f.account in
    let b = le-bytes 2 i.counterparty f.counterparty in
    let t = le-bytes 2 i.item f.item in
    let u = le-bytes 2 i.currency f.currency in
    let n = le-bytes 4 i.trade f.trade in
    let q = le-bytes 8 i.quantity f.quantity in
    let m = le-bytes 8 i.amount f.amount in
    λ k. Ok (record {
      kind = i.kind;
      account = a k;
      counterparty = b k;
      item = t k;
      currency = u k;
      trade = n k;
      quantity = q k;
      amount = m k;
    })

laid-back : (bs : List ℕ) → ((i : ℕ) → get_or bs i 0 < 256) → IsInstruction bs → bytes_of (fields_in bs) ≡ bs
laid-back bs h s =
    let z1 = sym s.one in
    let z10 = sym s.ten in
    let z11 = sym s.eleven in
    let a = part-back 2 2 bs h in
    let b = part-back 4 2 bs h in
    let t = part-back 6 2 bs h in
    let u = part-back 8 2 bs h in
    let n = part-back 12 4 bs h in
    let y = part-back 16 8 bs h in
    let m = part-back 24 8 bs h in
    let e : bytes_of
    (fields_in bs) ≡ bytes_from 0 32 bs = λ k. get_or bs 0 0 ∷ z1
    k ∷ (a k ++ (b k ++ (t k ++ (u k ++ (z10 k ∷ z11 k ∷ (n k ++ (y k ++ m k))))))) in
    e ∙ sym (part-whole 32 bs s.long)

is-instruction : (bs : List ℕ) → (eqb (length bs) 32 && unused_zero bs) ≡ true → IsInstruction bs
is-instruction bs e =
    let p = and_parts (eqb (length bs) 32) (unused_zero bs) e in
    let q = and_parts (eqb (get_or bs 1 0) 0) (eqb (get_or bs 10 0) 0 && eqb (get_or bs 11 0) 0) p.1 in
    let r = and_parts (eqb (get_or bs 10 0) 0) (eqb (get_or bs 11 0) 0) q.1 in
    record { long = eqb-true _ _ p.0; one = eqb-true _ _ q.0; ten = eqb-true _ _ r.0; eleven = eqb-true _ _ r.1 }

-- the bytes of a number that was written
byte-at : (w n k : ℕ) → k < w → get_or (le_bytes w n) k 0 ≡ (n / (2 ^ 8) ^ k) % 2 ^ 8
byte-at zero n k l = absurd (omega arith)
byte-at (suc w) n zero l = ap (λ m. m % 256) (sym (div-one n))
byte-at (suc w) n (suc k) l =
    byte-at w (n / 256) k (omega arith) ∙ ap (λ m. m % 256) (div-div-eq-div-mul n 256 (256 ^ k) ∙ ap (λ m. n / m)
    (mul_comm 256 (256 ^ k) ∙ sym (pow-suc 256 k)))

part-at : (bs : List ℕ) (at w k : ℕ) → k < w → get_or (bytes_from at w bs) k 0 ≡ get_or bs (at + k) 0
part-at bs at zero k l = absurd (omega arith)
part-at bs at (suc w) zero l = ap (λ p. get_or bs p 0) (omega arith)
part-at bs at (suc w) (suc k) l =
    let e : suc at + k ≡ at + suc k = omega arith in
    part-at bs (suc at) w k (omega arith) ∙ ap (λ p. get_or bs p 0) e

lies : (bs : List ℕ) (at w n : ℕ) → bytes_from at w bs ≡ le_bytes w n → LiesAt bs at w n
lies bs at w n e k l = sym (part-at bs at w k l) ∙ ap (λ t. get_or t k 0) e ∙ byte-at w n k l

pub laid-out : (i : Instruction) → IsLaidOut (bytes_of i) i
laid-out i = record {
  whole = record { long = refl; one = refl; ten = refl; eleven = refl };
  kind = refl;
  account = lies (bytes_of i) 2 2 i.account refl;
  counterparty = lies (bytes_of i) 4 2 i.counterparty refl;
  item = lies (bytes_of i) 6 2 i.item refl;
  currency = lies (bytes_of i) 8 2 i.currency refl;
  trade = lies (bytes_of i) 12 4 i.trade refl;
  quantity = lies (bytes_of i) 16 8 i.quantity refl;
  amount = lies (bytes_of i) 24 8 i.amount refl;
}

passes : (bs : List ℕ) → IsInstruction bs → (eqb (length bs) 32 && unused_zero bs) ≡ true
passes bs s = rw (s.long, s.one, s.ten, s.eleven)

reads-cases : (bs : List ℕ) → ((i : ℕ) → get_or bs i 0 < 256) → (t : Bool) → (eqb (length bs) 32 && unused_zero bs) ≡ t
    → Reads bs (cond t (Ok (fields_in bs)) (Err Malformed))
reads-cases bs h true e =
    let b = laid-back bs h (is-instruction bs e) in
    (subst (λ c. IsLaidOut c (fields_in bs)) b (laid-out (fields_in bs)), b)
reads-cases bs h false e = (refl, λ s. let z : true ≡ false = sym (passes bs s) ∙ e in cc)

pub reads : (bs : List ℕ) → ((i : ℕ) → get_or bs i 0 < 256) → Reads bs (instruction_in bs)
reads bs h = reads-cases bs h (eqb (length bs) 32 && unused_zero bs) refl
