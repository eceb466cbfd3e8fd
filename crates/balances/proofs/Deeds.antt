-- The accepted deeds on a table: their answers, what they leave, and that the table stays sound.
use Rattle.std.proofs.Common.{◌≡◌, ℕ, ◌+◌, ◌-◌, ◌<◌, ◌≤◌, List, [], length, get_or, Ok, sym, refl, ap, ◌∙◌, subst, arith}
use Rattle.std.proofs.lemmas.Bool.{eq-eqb}
use Rattle.refusals.specs.declared.Refusal.{Refusal}
use Rattle.book.specs.declared.Holding.{Holding}
use Rattle.book.specs.Holdings.{Holdings, total, limit, Deed, apply, crediting, blocking, moving, less_at}
use Rattle.book.specs.Rulings.{ruling, outcome, amount_answer, cover_answer}
use Rattle.book.proofs.Totals.{amount-le-total}
use Rattle.book.proofs.Accepted.{outcome-ok, answer-ok, covers-ok, credit-fits, block-accepted, move-accepted, stays-within}
use Rattle.balances.specs.declared.table.Balances.{Balances}
use Rattle.balances.specs.Rows.{balances_kind, holding_in, amounts, IsWholeTable, KeepsCeiling}
use Rattle.balances.proofs.Put.{put, full-put, put-credit, put-block, put-lower}

pub record Done (rows next : List (List Holding)) (w : Deed) : Type 0 where
  pub answer : Ok tt ≡ ruling balances_kind (amounts rows) w
  pub after : amounts next ≡ outcome balances_kind (amounts rows) w
  pub full : IsWholeTable next
  pub within : KeepsCeiling next

done : (rows next : List (List Holding)) (w : Deed) → KeepsCeiling rows → IsWholeTable next
    → Ok tt ≡ ruling balances_kind (amounts rows) w → amounts next ≡ apply (amounts rows) w → Done rows next w
done rows next w within full e same = record {
  answer = e;
  after = same ∙ outcome-ok balances_kind (amounts rows) w e;
  full = full;
  within = subst (λ (b : Holdings). (i : ℕ) → total b i ≤ limit balances_kind b i) (sym same)
      (stays-within balances_kind (amounts rows) w e within);
}

module _ (book : Balances) (A I q : ℕ) where
  abbrev rows : List (List Holding)
  rows = book.rows

  row-there : I < 16 → I < length rows
  row-there l = omega (arith, book.whole.0)

  account-there : A < 64 → I < 16 → A < length (get_or rows I [])
  account-there la li = omega (arith, book.whole.1 I li)

  pub credit-done : Ok tt ≡ ruling balances_kind (amounts rows) (crediting A I q)
      → Done rows (put rows A I
      (record { free = (holding_in rows A I).free + q; blocked = (holding_in rows A I).blocked }))
      (crediting A I q)
  credit-done e =
      let f = credit-fits balances_kind (amounts rows) A I q e in
      let t = row-there f.1 in
      done rows _ (crediting A I q) book.within_ceiling (full-put rows A I _ t book.whole) e
      (put-credit rows A I q t (account-there f.0 f.1))

  pub credit-room : Ok tt ≡ ruling balances_kind (amounts rows) (crediting A I q)
      → (holding_in rows A I).free + (holding_in rows A I).blocked + q ≤ 1000000000000
  credit-room e = let f = credit-fits balances_kind (amounts rows) A I q e in omega
      (arith, amount-le-total (amounts rows) A I f.0, f.3)

  module _ (holding : Holding) (e : Ok holding ≡ amount_answer balances_kind (holding_in rows) A I) where
    place : (A < 64) × (I < 16) × (holding ≡ holding_in rows A I)
    place = answer-ok balances_kind (holding_in rows) A I holding e

    pub holding-room : holding.free + holding.blocked ≤ 1000000000000
    holding-room =
        let f : holding.free ≡ (holding_in rows A I).free = ap (λ h. h.free) place.2 in
        let g : holding.blocked ≡ (holding_in rows A I).blocked = ap (λ h. h.blocked) place.2 in
        omega (arith, amount-le-total (amounts rows) A I place.0, book.within_ceiling I)

    module _ (short : Refusal) where
      pub block-done : Ok tt ≡ cover_answer holding.free q short
          → Done rows (put rows A I (record { free = holding.free - q; blocked = holding.blocked + q }))
          (blocking A I q)
      block-done c =
          let t = row-there place.1 in
          let m = covers-ok holding.free q short c in
          let f : holding.free ≡ (holding_in rows A I).free = ap (λ h. h.free) place.2 in
          let same = ap (λ (h : Holding). amounts
          (put rows A I (record { free = h.free - q; blocked = h.blocked + q }))) place.2 in
          done rows _ (blocking A I q) book.within_ceiling (full-put rows A I _ t book.whole)
          (block-accepted balances_kind (amounts rows) A I q place.0 place.1 m.0 (omega arith))
          (same ∙ put-block rows A I q t (account-there place.0 place.1))

      module _ (B : ℕ) (lb : B < 64) (c : Ok tt ≡ cover_answer holding.blocked q short) where
        -- the table with the amount taken and not yet given
        abbrev pub taken : List (List Holding)
        taken = put rows A I (record
            { free = (holding_in rows A I).free; blocked = (holding_in rows A I).blocked - q })

        there : I < length rows
        there = row-there place.1

        taken-full : IsWholeTable taken
        taken-full = full-put rows A I _ there book.whole

        taken_is : amounts taken ≡ record {
          free = (amounts rows).free;
          blocked = less_at
              (amounts rows).blocked A I q;
        }
        taken_is = put-lower rows A I q there (account-there place.0 place.1)

        move-ok : Ok tt ≡ ruling balances_kind (amounts rows) (moving A B I q)
        move-ok =
            let m = covers-ok holding.blocked q short c in
            let g : holding.blocked ≡ (holding_in rows A I).blocked = ap (λ h. h.blocked) place.2 in
            move-accepted balances_kind (amounts rows) A B I q place.0 lb place.1 m.0 (omega arith)

        pub move-done : Done rows (put taken B I
            (record { free = (holding_in taken B I).free + q; blocked = (holding_in taken B I).blocked }))
            (moving A B I q)
        move-done =
            let t : I < length taken = omega (arith, taken-full.0, place.1) in
            done rows _ (moving A B I q) book.within_ceiling (full-put taken B I _ t taken-full) move-ok
            (put-credit taken B I q t (omega (arith, taken-full.1 I place.1))
            ∙ ap (λ b. apply b (crediting B I q)) taken_is)

        pub move-room : (holding_in taken B I).free + (holding_in taken B I).blocked + q ≤ 1000000000000
        move-room =
            let after = apply (amounts rows) (moving A B I q) in
            let most = amount-le-total after B I lb in
            let room = stays-within balances_kind (amounts rows) (moving A B I q) move-ok book.within_ceiling I in
            let kept : (holding_in taken B I).free ≡ (holding_in rows B I).free = ap (λ b. b.free B I) taken_is in
            let low : (holding_in taken B I).blocked ≡ after.blocked B I = ap (λ b. b.blocked B I) taken_is in
            let up : after.free B I ≡ (holding_in rows B I).free + q = rw (eq-eqb B B refl, eq-eqb I I refl) in
            omega arith
