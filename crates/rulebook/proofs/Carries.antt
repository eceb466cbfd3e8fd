-- The books accept what the rules have them do.
use Rattle.std.proofs.Common.{◌≡◌, ℕ, ◌<◌, ◌≤◌, Bool, true, false, ◌||◌, eqb, List, Some, None, Ok, sym, refl, ap, ◌∙◌, ⊎_elim, arith}
use Rattle.std.proofs.lemmas.Bool.{ne_eqb, cases_Bool, ltb-false, lt-leb, le-ltb}
use Rattle.instruction.specs.declared.Kind.TheVariants.{Issue, PayIn, Enter, Earmark, Fund, Settle, Free}
use Rattle.instruction.specs.declared.Instruction.{Instruction}
use Rattle.instruction.specs.Kinds.{kind_at}
use Rattle.book.specs.Holdings.{crediting, blocking, releasing, moving}
use Rattle.book.specs.Rulings.{first_refusal, checks}
use Rattle.rulebook.specs.declared.State.{State}
use Rattle.rulebook.specs.declared.Terms.{Terms}
use Rattle.rulebook.specs.Table.{Act, may_start}
use Rattle.rulebook.specs.Terms.{Side, securities, cash, giver, taker, asset, volume}
use Rattle.rulebook.specs.Rules.{Rulebook, Standing, has_blocked, all_checks, is_enter, deed, AreAccepted}
use Rattle.rulebook.specs.Law.{BooksAccept}
use Rattle.rulebook.proofs.Checks.{passes, cleared, right, settle-from, was-entered}
use Rattle.rulebook.proofs.Safe.{Proper, Safe, safe}

neither : (b c : Bool) → b ≡ false → c ≡ false → (b || c) ≡ false
neither b c p q = rw (p, q)

not-zero : (q : ℕ) → 0 < q → eqb q 0 ≡ false
not-zero q l = ne_eqb q 0 (λ e. omega arith)

module _ (h : Rulebook) (s : Standing) (z : Safe h s) (x : Instruction) where
  abbrev m : Terms
  m = s.terms x.trade

  abbrev Takes : Act → Side → State → Type 0
  Takes k d o = first_refusal (checks (h.book_kind d) (s.book d) (deed k d o m x)) ≡ Ok tt

  good : (k : Act) (o : State) → s.state x.trade ≡ o → is_enter k ≡ false → may_start k o ≡ true → Proper h m
  good k o e i w = ⊎_elim (λ n. absurd (was-entered k o i w (sym e ∙ n))) (λ p. p) (z.proper x.trade)

  may-block : (d : Side) → Proper h m → volume d m ≤ (s.book d).free (giver d m) (asset d m)
      → first_refusal (checks (h.book_kind d) (s.book d) (blocking (giver d m) (asset d m) (volume d m))) ≡ Ok tt
  may-block d p l = passes (checks (h.book_kind d) (s.book d) (blocking (giver d m) (asset d m) (volume d m))) (
    lt-leb 64 _ (p.giver-low d),
    (
      lt-leb _ _ (p.asset-low d),
      (not-zero _ (p.some-volume d), (le-ltb _ _ l, tt)),
    ),
  )

  may-release : (d : Side) → Proper h m → volume d m ≤ (s.book d).blocked (giver d m) (asset d m)
      → first_refusal (checks (h.book_kind d) (s.book d) (releasing (giver d m) (asset d m) (volume d m))) ≡ Ok tt
  may-release d p l = passes (checks (h.book_kind d) (s.book d) (releasing (giver d m) (asset d m) (volume d m))) (
    lt-leb 64 _ (p.giver-low d),
    (
      lt-leb _ _ (p.asset-low d),
      (not-zero _ (p.some-volume d), (le-ltb _ _ l, tt)),
    ),
  )

  may-move : (d : Side) → Proper h m → volume d m ≤ (s.book d).blocked (giver d m) (asset d m)
      → first_refusal (checks (h.book_kind d) (s.book d)
      (moving (giver d m) (taker d m) (asset d m) (volume d m))) ≡ Ok tt
  may-move d p l = passes (checks (h.book_kind d) (s.book d)
      (moving (giver d m) (taker d m) (asset d m) (volume d m))) (
        neither _ _ (lt-leb 64 _ (p.giver-low d)) (lt-leb 64 _ (p.taker-low d)),
        (lt-leb _ _ (p.asset-low d), (not-zero _ (p.some-volume d), (le-ltb _ _ l, tt))),
      )

  still-blocked : (d : Side) (o : State) → x.trade < 128 → s.state x.trade ≡ o → has_blocked d o ≡ true
      → volume d m ≤ (s.book d).blocked (giver d m) (asset d m)
  still-blocked d o l e y = z.covered d x.trade l (ap (has_blocked d) e ∙ y)

  takes : (k : Act) (d : Side) (o : State) → s.state x.trade ≡ o → first_refusal (all_checks h k o m s x) ≡ Ok tt
      → Takes k d o
  takes (Some Issue) securities o e p = passes (checks (h.book_kind securities) (s.book securities)
      (crediting x.account x.item x.quantity)) (cleared h m s x (Some Issue) o p).1.1
  takes (Some Issue) cash o e p = refl
  takes (Some PayIn) securities o e p = refl
  takes (Some PayIn) cash o e p = passes (checks (h.book_kind cash) (s.book cash)
      (crediting x.account x.currency x.amount)) (cleared h m s x (Some PayIn) o p).1.1
  takes (Some Enter) d o e p = refl
  takes (Some Earmark) securities o e p =
      let r = right h (Some Earmark) o m s x tt p in
      may-block securities (good (Some Earmark) o e refl r.from)
      (ltb-false _ _ (cleared h m s x (Some Earmark) o p).1.1.1.1.0)
  takes (Some Earmark) cash o e p = refl
  takes (Some Fund) securities o e p = refl
  takes (Some Fund) cash o e p =
      let r = right h (Some Fund) o m s x tt p in
      may-block cash (good (Some Fund) o e refl r.from) (ltb-false _ _ (cleared h m s x (Some Fund) o p).1.1.1.1.0)
  takes (Some Settle) d o e p =
      let r = right h (Some Settle) o m s x tt p in
      may-move d (good (Some Settle) o e refl r.from) (still-blocked d o r.low e (settle-from d o r.from).0)
  takes (Some Free) d o e p =
      let r = right h (Some Free) o m s x tt p in
      ⊎_elim (λ (y : has_blocked d o ≡ true). rw y
      (may-release d (good (Some Free) o e refl r.from) (still-blocked d o r.low e y)))
      (λ (y : has_blocked d o ≡ false). rw y) (cases_Bool (has_blocked d o))
  takes None d o e p = refl

pub books-accept : (h : Rulebook) (xs : List Instruction) (s : Standing) (x : Instruction) → AreAccepted h xs s
    → BooksAccept h s x
books-accept h xs s x r e d = takes h s (safe h xs s r) x (kind_at x.kind) d (s.state x.trade) refl e
