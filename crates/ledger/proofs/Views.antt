-- Where the code's ledger stands.
use Rattle.std.proofs.Common.{◌≡◌, ℕ, ◌<◌, ◌≤◌, ◌⊎◌, inl, inr, List, [], map, get_or, replicate, sym, ap, ◌∙◌, ⊎_elim, subst, arith}
use Rattle.std.specs.List.{range_with_len}
use Rattle.std.proofs.lemmas.List.{get_or_past, get_or-replicate}
use Rattle.std.proofs.lemmas.List.FromFn.{get_or-map-range_with_len, length-map-range_with_len}
use Rattle.std.proofs.lemmas.Bool.{cases_lt}
use Rattle.book.specs.declared.Book as book
use Rattle.book.specs.declared.Holding.{Holding}
use Rattle.book.specs.Holdings.{Holdings, BookKind, nothing}
use Rattle.book.specs.Rulings.{no_holding, holding_of}
use Rattle.rulebook.specs.declared.Trade.{Trade}
use Rattle.rulebook.specs.Terms.{Side, securities, cash}
use Rattle.rulebook.specs.Rules.{Rulebook, Standing, empty, start, IsReachable}
use Rattle.ledger.specs.View.{both_sides, standing_between, holding_in, holdings_in, table_of, Tables, tables_in, standing_of, standing_in}
use Rattle.ledger.specs.declared.parts.Parts.{Parts}
use Rattle.ledger.specs.Rows.{unentered_trade, state_at, terms_at}

replicated : (t : ℕ) → get_or (replicate 128 unentered_trade) t unentered_trade ≡ unentered_trade
replicated t = ⊎_elim (λ l. get_or-replicate 128 t unentered_trade unentered_trade l)
    (λ p. get_or_past (replicate 128 unentered_trade) t unentered_trade p) (cases_lt t 128)

-- books and trades that are equal at each place are the same standing
pub standing-same : (r c : Holdings) (rows : List Trade) (s : Standing) → r ≡ s.book securities → c ≡ s.book cash
    → ((t : ℕ) → state_at rows t ≡ s.state t) → ((t : ℕ) → terms_at rows t ≡ s.terms t) → standing_between r c rows ≡ s
standing-same r c rows s er ec es em =
    let books : (d : Side)
    → both_sides r c d ≡ s.book d = λ d. elim d as (λ d. both_sides r c d ≡ s.book d)
    [ securities ↦ er | cash ↦ ec ] in
    λ k. record { book = λ d. books d k; state = λ t. es t k; terms = λ t. em t k }

pub fresh : (r c : Holdings) (rows : List Trade) → r ≡ nothing → c ≡ nothing → rows ≡ replicate 128 unentered_trade
    → standing_between r c rows ≡ empty
fresh r c rows er ec e =
    let row : (t : ℕ) → get_or rows t unentered_trade ≡ unentered_trade = λ t. ap
    (λ z. get_or z t unentered_trade) e ∙ replicated t in
    standing-same r c rows empty er ec (λ t. ap (λ z. z.state) (row t)) (λ t. ap (λ z. z.terms) (row t))

-- the empty list leads to the empty standing
pub reachable-empty : (h : Rulebook) (s : Standing) → s ≡ empty → IsReachable h s
reachable-empty h s e = subst (IsReachable h) (sym e) ([], start)

-- a book has nothing on an account, or of an item, that does not exist
abbrev pub Outside : BookKind → Holdings → Type 0
Outside k b = (a i : ℕ) → (64 ≤ a) ⊎ (k.items ≤ i) → (b.free a i ≡ 0) × (b.blocked a i ≡ 0)

-- then its table has the same amounts
module _ (k : BookKind) (b : Holdings) (o : Outside k b) where
  row_of : ℕ → List Holding
  row_of a = map (holding_of b a) (range_with_len 0 k.items)

  none-there : (a i : ℕ) → (64 ≤ a) ⊎ (k.items ≤ i) → no_holding ≡ holding_of b a i
  none-there a i p = let z = o a i p in λ j. record { free = sym z.0 j; blocked = sym z.1 j }

  in-row : (a i : ℕ) → get_or (row_of a) i no_holding ≡ holding_of b a i
  unfolding row_of
  in-row a i =
      ⊎_elim (λ (l : i < k.items). get_or-map-range_with_len (holding_of b a) 0 k.items i i no_holding l (omega arith))
      (λ (p : k.items ≤ i). get_or_past (row_of a) i no_holding
      (subst (λ n. n ≤ i) (sym (length-map-range_with_len (holding_of b a) 0 k.items)) p)
      ∙ none-there a i (inr p))
      (cases_lt i k.items)

  in-table : (a i : ℕ) → holding_in (table_of k b) a i ≡ holding_of b a i
  unfolding row_of table_of
  in-table a i =
      ⊎_elim (λ (l : a < 64). ap (λ r. get_or r i no_holding)
      (get_or-map-range_with_len row_of 0 64 a a [] l (omega arith)) ∙ in-row a i)
      (λ (p : 64 ≤ a). ap (λ r. get_or r i no_holding)
      (get_or_past (table_of k b) a [] (subst (λ n. n ≤ a) (sym (length-map-range_with_len row_of 0 64)) p))
      ∙ none-there a i (inl p))
      (cases_lt a 64)

  pub tabled : holdings_in (table_of k b) ≡ b
  tabled = λ j. record { free = λ a i. (in-table a i j).free; blocked = λ a i. (in-table a i j).blocked }

-- where a ledger stands is where its parts do
pub stands : {R C : Type 0} (r : book.Ghosts R) (c : book.Ghosts C) (p : Parts R C) {t : Tables}
    → ((b : R) → Outside r.book_kind (r.holdings b)) → ((b : C) → Outside c.book_kind (c.holdings b))
    → tables_in r c p ≡ t → standing_of t ≡ standing_in r c p
stands r c p or oc e =
    let rows = p.trades.rows in
    ap standing_of (sym e)
    ∙ ap (λ b. standing_between b (holdings_in (table_of c.book_kind (c.holdings p.cash))) rows)
    (tabled r.book_kind (r.holdings p.register) (or p.register))
    ∙ ap (λ b. standing_between (r.holdings p.register) b rows) (tabled c.book_kind (c.holdings p.cash) (oc p.cash))
