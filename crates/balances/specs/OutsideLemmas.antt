-- A lemma: a whole table has nothing past the last account or the last item.
use Rattle.std.specs.Prelude.{◌≡◌, ℕ, ◌≤◌, ◌⊎◌, List, [], slice_index_or}
use Rattle.std.proofs.Common.{ap, ⊎_elim, arith}
use Rattle.std.proofs.lemmas.List.{get_or_past}
use Rattle.std.proofs.lemmas.Bool.{cases_lt}
use Rattle.book.specs.declared.TheConstants.{ACCOUNTS}
use Rattle.book.specs.declared.Holding.{Holding}
use Rattle.book.specs.Rulings.{no_holding}
use Rattle.balances.specs.declared.table.TheConstants.{ITEMS}
use Rattle.balances.specs.Rows.{holding_in, IsWholeTable}

pub nothing-outside : (rows : List (List Holding)) → IsWholeTable rows → (a i : ℕ)
    → (ACCOUNTS ≤ a) ⊎ (ITEMS ≤ i) → holding_in rows a i ≡ no_holding
nothing-outside rows whole a i out =
    ⊎_elim
    (λ l. get_or_past (slice_index_or rows i []) a no_holding
    (⊎_elim (λ (p : ACCOUNTS ≤ a). omega (arith, whole.1 i l)) (λ (p : ITEMS ≤ i). omega arith) out))
    (λ past. let none = get_or_past rows i [] (omega (arith, whole.0)) in
    ap (λ r. slice_index_or r a no_holding) none)
    (cases_lt i ITEMS)
