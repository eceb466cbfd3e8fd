-- A list, read from left to right, leaves a trade as its last instructions say; a trade's steps.
use Rattle.std.proofs.Common.{◌≡◌, ℕ, ◌<◌, ◌≤◌, true, false, eqb, ◌⊎◌, inl, inr, List, [], ◌∷◌, ◌++◌, Some, None, Ok, fold, sym, refl, ap, ◌∙◌, subst, ⊎_elim, arith}
use Rattle.std.proofs.lemmas.Bool.{eqb-true, eq-eqb, ne_eqb, cases_Bool, cases_eq, cases_lt, cond-true, cond-false}
use Rattle.instruction.specs.declared.Kind.{Kind}
use Rattle.instruction.specs.declared.Kind.TheVariants.{Enter, Earmark, Fund, Settle, Free}
use Rattle.instruction.specs.declared.Instruction.{Instruction}
use Rattle.instruction.specs.Kinds.{code_of, kind_at}
use Rattle.book.specs.Rulings.{first_refusal}
use Rattle.rulebook.specs.declared.State.{State}
use Rattle.rulebook.specs.declared.State.TheVariants.{Entered, Earmarked, Funded, Settled, Freed}
use Rattle.rulebook.specs.declared.Terms.{Terms}
use Rattle.rulebook.specs.Table.{state_after, may_start, next_state, TradeSteps}
use Rattle.rulebook.specs.Terms.{terms_of}
use Rattle.rulebook.specs.Rules.{Rulebook, Standing, all_checks, answer, set_at, states_after, effect}
use Rattle.rulebook.specs.Words.{IsOn, IsEnterOn, HasNo, IsLast, IsStateAfter, StatesTerms, LastsAreUnique}
use Rattle.rulebook.proofs.Bytes.{by-byte}
use Rattle.rulebook.proofs.Replay.{read_state, read_terms}
use Rattle.rulebook.proofs.Checks.{right, enter-code}
use Rattle.rulebook.proofs.Tables.{state-table}

at-same : {Y : Type 0} (f : ℕ → Y) (t u : ℕ) (v : Y) → t ≡ u → set_at f t v u ≡ v
at-same f t u v e = cond-true (eqb t u) v (f u) (eq-eqb t u e)

at-other : {Y : Type 0} (f : ℕ → Y) (t u : ℕ) (v : Y) → (t ≡ u → ⊥) → set_at f t v u ≡ f u
at-other f t u v ne = cond-false (eqb t u) v (f u) (ne_eqb t u ne)

-- an instruction of another trade, or of none, leaves this one's state
untouched : (x : Instruction) (f : ℕ → State) (t : ℕ) → (IsOn t x → ⊥) → read_state f x t ≡ f t
untouched x f t h =
    by-byte (λ k n. (3 ≤ n → n ≤ 7 → x.trade ≡ t → ⊥) → states_after (state_after k) f x.trade t ≡ f t)
    (λ h. refl) (λ h. refl)
    (λ h. at-other f x.trade t _ (h (omega arith) (omega arith)))
    (λ h. at-other f x.trade t _ (h (omega arith) (omega arith)))
    (λ h. at-other f x.trade t _ (h (omega arith) (omega arith)))
    (λ h. at-other f x.trade t _ (h (omega arith) (omega arith)))
    (λ h. at-other f x.trade t _ (h (omega arith) (omega arith)))
    (λ n o h. refl) x.kind (λ l m e. h (record { from = l; to = m; trade = e }))

-- an instruction on this trade sets its state
touched : (x : Instruction) (f : ℕ → State) (t : ℕ) → IsOn t x → IsStateAfter x.kind (read_state f x t)
touched x f t o =
    by-byte (λ k n. 3 ≤ n → n ≤ 7 → IsStateAfter n (states_after (state_after k) f x.trade t))
    (λ l m. absurd (omega arith)) (λ l m. absurd (omega arith))
    (λ l m. rw (eq-eqb x.trade t o.trade) entered-after)
    (λ l m. rw (eq-eqb x.trade t o.trade) earmarked-after)
    (λ l m. rw (eq-eqb x.trade t o.trade) funded-after)
    (λ l m. rw (eq-eqb x.trade t o.trade) settled-after)
    (λ l m. rw (eq-eqb x.trade t o.trade) freed-after)
    (λ n h l m. absurd (h l m)) x.kind o.from o.to
  where
    entered-after : IsStateAfter 3 Entered
    entered-after = record {
      entered = λ e. refl;
      earmarked = λ e. absurd (omega arith);
      funded = λ e. absurd (omega arith);
      settled = λ e. absurd (omega arith);
      freed = λ e. absurd (omega arith);
    }

    earmarked-after : IsStateAfter 4 Earmarked
    earmarked-after = record {
      entered = λ e. absurd (omega arith);
      earmarked = λ e. refl;
      funded = λ e. absurd (omega arith);
      settled = λ e. absurd (omega arith);
      freed = λ e. absurd (omega arith);
    }

    funded-after : IsStateAfter 5 Funded
    funded-after = record {
      entered = λ e. absurd (omega arith);
      earmarked = λ e. absurd (omega arith);
      funded = λ e. refl;
      settled = λ e. absurd (omega arith);
      freed = λ e. absurd (omega arith);
    }

    settled-after : IsStateAfter 6 Settled
    settled-after = record {
      entered = λ e. absurd (omega arith);
      earmarked = λ e. absurd (omega arith);
      funded = λ e. absurd (omega arith);
      settled = λ e. refl;
      freed = λ e. absurd (omega arith);
    }

    freed-after : IsStateAfter 7 Freed
    freed-after = record {
      entered = λ e. absurd (omega arith);
      earmarked = λ e. absurd (omega arith);
      funded = λ e. absurd (omega arith);
      settled = λ e. absurd (omega arith);
      freed = λ e. refl;
    }

pub stay : (zs : List Instruction) (f : ℕ → State) (t : ℕ) → HasNo (IsOn t) zs → fold read_state f zs t ≡ f t
stay [] f t h = refl
stay (z ∷ zs) f t h = stay zs (read_state f z) t h.1 ∙ untouched z f t h.0

after-x : (xs zs : List Instruction) (f : ℕ → State) (x : Instruction) (t : ℕ) → IsOn t x → HasNo (IsOn t) zs
    → IsStateAfter x.kind (fold read_state f (xs ++ (x ∷ zs)) t)
after-x [] zs f x t o h = rw (stay zs (read_state f x) t h) (touched x f t o)
after-x (y ∷ xs) zs f x t o h = after-x xs zs (read_state f y) x t o h

pub after-last : (xs : List Instruction) (f : ℕ → State) (x : Instruction) (t : ℕ) → IsLast (IsOn t) x xs
    → IsStateAfter x.kind (fold read_state f xs t)
after-last xs f x t l =
    subst (λ ys. IsStateAfter x.kind (fold read_state f ys t)) (sym l.place)
    (after-x l.before l.later f x t l.holds l.never-later)

terms-same : (f : ℕ → Terms) (x : Instruction) (t : ℕ) → (IsEnterOn t x → ⊥) → read_terms f x t ≡ f t
terms-same f x t h =
    ⊎_elim (λ (e : eqb x.kind (code_of Enter) ≡ true). rw (enter-code x.kind, e)
    (at-other f x.trade t (terms_of x) (λ w. h (record { kind = eqb-true _ _ e; trade = w }))))
    (λ (e : eqb x.kind (code_of Enter) ≡ false). rw (enter-code x.kind, e)) (cases_Bool (eqb x.kind (code_of Enter)))

terms-set : (f : ℕ → Terms) (x : Instruction) (t : ℕ) → IsEnterOn t x → read_terms f x t ≡ terms_of x
terms-set f x t o = rw (enter-code x.kind, eq-eqb x.kind (code_of Enter) o.kind)
    (at-same f x.trade t (terms_of x) o.trade)

terms-stay : (zs : List Instruction) (f : ℕ → Terms) (t : ℕ) → HasNo (IsEnterOn t) zs → fold read_terms f zs t ≡ f t
terms-stay [] f t h = refl
terms-stay (z ∷ zs) f t h = terms-stay zs (read_terms f z) t h.1 ∙ terms-same f z t h.0

terms-x : (xs zs : List Instruction) (f : ℕ → Terms) (x : Instruction) (t : ℕ) → IsEnterOn t x
    → HasNo (IsEnterOn t) zs → fold read_terms f (xs ++ (x ∷ zs)) t ≡ terms_of x
terms-x [] zs f x t o h = terms-stay zs (read_terms f x) t h ∙ terms-set f x t o
terms-x (y ∷ xs) zs f x t o h = terms-x xs zs (read_terms f y) x t o h

stated : (x : Instruction) → StatesTerms x (terms_of x)
stated x = search

pub stated-last : (xs : List Instruction) (f : ℕ → Terms) (x : Instruction) (t : ℕ) → IsLast (IsEnterOn t) x xs
    → StatesTerms x (fold read_terms f xs t)
stated-last xs f x t l =
    let e = ap (λ ys. fold read_terms f ys t) l.place ∙ terms-x l.before l.later f x t l.holds l.never-later in
    subst (StatesTerms x) (sym e) (stated x)

-- a list has at most one last instruction with the property P
module _ (P : Instruction → Type 0) where
  missed : (ys zs : List Instruction) (y : Instruction) → HasNo P (ys ++ (y ∷ zs)) → P y → ⊥
  missed [] zs y n p = n.0 p
  missed (u ∷ ys) zs y n p = missed ys zs y n.1 p

  one-place : (xs ys : List Instruction) (x y : Instruction) (us vs : List Instruction)
      → xs ++ (x ∷ us) ≡ ys ++ (y ∷ vs)
      → P x → P y → HasNo P us → HasNo P vs → x ≡ y
  one-place [] [] x y us vs e p q n m = cc
  one-place [] (w ∷ ys) x y us vs e p q n m =
      let f : us ≡ ys ++ (y ∷ vs) = cc in
      absurd (missed ys vs y (subst (λ l. HasNo P l) f n) q)
  one-place (w ∷ xs) [] x y us vs e p q n m =
      let f : vs ≡ xs ++ (x ∷ us) = cc in
      absurd (missed xs us x (subst (λ l. HasNo P l) f m) p)
  one-place (w ∷ xs) (v ∷ ys) x y us vs e p q n m =
      let f : xs ++ (x ∷ us) ≡ ys ++ (y ∷ vs) = cc in
      one-place xs ys x y us vs f p q n m

  one : (xs : List Instruction) (x y : Instruction) → IsLast P x xs → IsLast P y xs → x ≡ y
  one xs x y l m = one-place l.before m.before x y l.later m.later
      (sym l.place ∙ m.place) l.holds m.holds l.never-later m.never-later

  some : ((x : Instruction) → P x ⊎ (P x → ⊥)) → (xs : List Instruction)
      → HasNo P xs ⊎ ((x : Instruction) × IsLast P x xs)
  some d [] = inl tt
  some d (x ∷ xs) =
      ⊎_elim (λ (n : HasNo P xs).
      ⊎_elim (λ (p : P x). inr (x, record { before = []; later = xs; place = refl; holds = p; never-later = n }))
      (λ (q : P x → ⊥). inl (q, n)) (d x))
      (λ (l : (y : Instruction) × IsLast P y xs).
      inr (
        l.0,
        record {
          before = x ∷ l.1.before;
          later = l.1.later;
          place = ap (λ ys. x ∷ ys) l.1.place;
          holds = l.1.holds;
          never-later = l.1.never-later;
        },
      ))
      (some d xs)

is-on : (t : ℕ) (x : Instruction) → IsOn t x ⊎ (IsOn t x → ⊥)
is-on t x =
    ⊎_elim (λ (l : x.kind < 3). inr (λ o. let f = o.from in omega arith))
    (λ (l : 3 ≤ x.kind).
    ⊎_elim (λ (m : 7 < x.kind). inr (λ o. let f = o.to in omega arith))
    (λ (m : x.kind ≤ 7).
    ⊎_elim (λ (e : x.trade ≡ t). inl (record { from = l; to = m; trade = e }))
    (λ (n : x.trade ≡ t → ⊥). inr (λ o. n o.trade)) (cases_eq x.trade t))
    (cases_lt 7 x.kind))
    (cases_lt x.kind 3)

is-enter-on : (t : ℕ) (x : Instruction) → IsEnterOn t x ⊎ (IsEnterOn t x → ⊥)
is-enter-on t x =
    ⊎_elim (λ (k : x.kind ≡ 3).
    ⊎_elim (λ (e : x.trade ≡ t). inl (record { kind = k; trade = e }))
    (λ (n : x.trade ≡ t → ⊥). inr (λ o. n o.trade)) (cases_eq x.trade t))
    (λ (n : x.kind ≡ 3 → ⊥). inr (λ o. n o.kind)) (cases_eq x.kind 3)

pub lasts-are-unique : LastsAreUnique
lasts-are-unique = record {
  of-trade = λ t. record { some = some (IsOn t) (is-on t); one = one (IsOn t) };
  of-enter = λ t. record { some = some (IsEnterOn t) (is-enter-on t); one = one (IsEnterOn t) };
}

-- an instruction on a trade leads where the table says
steps : (k : Kind) (n : ℕ) → kind_at n ≡ Some k → (o p : State) (f : ℕ → State) (t : ℕ)
    → state_after (Some k) ≡ Some p → may_start (Some k) o ≡ true
    → TradeSteps o n (states_after (state_after (Some k)) f t t)
steps k n c o p f t e w =
    let b : next_state (Some k) o ≡ Some p = cond-true (may_start (Some k) o) (state_after (Some k)) None w ∙ e in
    let v : states_after (state_after (Some k)) f t t ≡ p = ap (λ a. states_after a f t t) e ∙ at-same f t t p refl in
    subst (λ q. TradeSteps o n q) (sym v) (state-table.only o p n (ap (λ a. next_state a o) c ∙ b))

-- an accepted instruction on a trade moves it by one of the steps
pub accepted-steps : (h : Rulebook) (s : Standing) (x : Instruction) → answer h s x ≡ Ok tt → 3 ≤ x.kind → x.kind ≤ 7
    → TradeSteps (s.state x.trade) x.kind ((effect s x).state x.trade)
accepted-steps h s x ok l m =
    let o = s.state x.trade in
    let tm = s.terms x.trade in
    by-byte (λ k n. first_refusal (all_checks h k o tm s x) ≡ Ok tt → 3 ≤ n → n ≤ 7 → TradeSteps o n
    (states_after (state_after k) s.state x.trade x.trade))
    (λ p l m. absurd (omega arith)) (λ p l m. absurd (omega arith))
    (λ p l m. steps Enter 3 refl o Entered s.state x.trade refl (right h (Some Enter) o tm s x tt p).from)
    (λ p l m. steps Earmark 4 refl o Earmarked s.state x.trade refl (right h (Some Earmark) o tm s x tt p).from)
    (λ p l m. steps Fund 5 refl o Funded s.state x.trade refl (right h (Some Fund) o tm s x tt p).from)
    (λ p l m. steps Settle 6 refl o Settled s.state x.trade refl (right h (Some Settle) o tm s x tt p).from)
    (λ p l m. steps Free 7 refl o Freed s.state x.trade refl (right h (Some Free) o tm s x tt p).from)
    (λ n h p l m. absurd (h l m)) x.kind ok l m
