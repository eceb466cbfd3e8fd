-- The sums of the law equal the sums by the words of the rules.
use Rattle.std.proofs.Common.{◌≡◌, ℕ, zero, suc, ◌+◌, Bool, true, false, cond, ◌&&◌, eqb, map, sum_by, sym, refl, ap, ◌∙◌, add-one, arith}
use Rattle.std.specs.List.{range_with_len}
use Rattle.std.proofs.lemmas.List.{map-id}
use Rattle.std.proofs.lemmas.List.FromFn.{sum_by-map-range_with_len_more}
use Rattle.book.specs.Sums.{sum_below, amount_if, is_place}
use Rattle.book.proofs.Sums.{sum_below-same}
use Rattle.rulebook.specs.declared.State.{State}
use Rattle.rulebook.specs.declared.State.TheVariants.{Earmarked, Funded, Settled}
use Rattle.rulebook.specs.declared.Terms.{Terms}
use Rattle.rulebook.specs.Terms.{Side, securities, cash}
use Rattle.rulebook.specs.Flows.{trades, share, outflow, inflow, hold}
use Rattle.rulebook.proofs.Replay.{give_of, take_of, hold_of, over}

both : (b c : Bool) (q : ℕ) → cond b (cond c q 0) 0 ≡ amount_if (b && c) q
both true true q = refl
both true false q = refl
both false c q = refl

sum-of-copy : (f : ℕ → ℕ) (n : ℕ) → sum_by f (range_with_len 0 n) ≡ sum_by f (map (λ k. k) (range_with_len 0 n))
sum-of-copy f n = ap (λ l. sum_by f l) (sym (map-id (range_with_len 0 n)))

sum-below : (f : ℕ → ℕ) (n : ℕ) → sum_by f (range_with_len 0 n) ≡ sum_below n f
unfolding sum_below
sum-below f zero = refl
sum-below f (suc n) =
    let m = rw add-one at (sum_by-map-range_with_len_more f (λ k. k) 0 n n (omega arith)) in
    sum-of-copy f (suc n) ∙ m ∙ ap (λ s. s + f n) (sym (sum-of-copy f n) ∙ sum-below f n)

over-trades : (f : ℕ → ℕ) → sum_by f trades ≡ sum_below 128 f
unfolding trades
over-trades f = sum-below f 128

module _ (a i : ℕ) where
  pub share-is : (A I q : ℕ) → share a i A I q ≡ amount_if (is_place A I a i) q
  share-is A I q = both (eqb A a) (eqb I i) q

  outflow-is : (d : Side) (o : State) (m : Terms) → outflow a i d o m ≡ give_of d a i o m
  outflow-is securities Settled m = search share-is
  outflow-is cash Settled m = search share-is
  outflow-is securities o m = refl
  outflow-is cash o m = refl

  inflow-is : (d : Side) (o : State) (m : Terms) → inflow a i d o m ≡ take_of d a i o m
  inflow-is securities Settled m = search share-is
  inflow-is cash Settled m = search share-is
  inflow-is securities o m = refl
  inflow-is cash o m = refl

  hold-is : (d : Side) (o : State) (m : Terms) → hold a i d o m ≡ hold_of d a i o m
  hold-is securities Earmarked m = search share-is
  hold-is securities Funded m = search share-is
  hold-is cash Funded m = search share-is
  hold-is securities o m = refl
  hold-is cash o m = refl

  -- over all trades
  summed : (f g : State → Terms → ℕ) → ((o : State) (m : Terms) → f o m ≡ g o m) → (st : ℕ → State) (tm : ℕ → Terms)
      → sum_by (λ t. f (st t) (tm t)) trades ≡ over g st tm
  summed f g e st tm = over-trades (λ t. f (st t) (tm t)) ∙ sum_below-same 128 _ _ (λ t l. e (st t) (tm t))

  pub outflows-is : (d : Side) (st : ℕ → State) (tm : ℕ → Terms)
      → sum_by (λ t. outflow a i d (st t) (tm t)) trades ≡ over (give_of d a i) st tm
  outflows-is d st tm = summed (outflow a i d) (give_of d a i) (outflow-is d) st tm

  pub inflows-is : (d : Side) (st : ℕ → State) (tm : ℕ → Terms)
      → sum_by (λ t. inflow a i d (st t) (tm t)) trades ≡ over (take_of d a i) st tm
  inflows-is d st tm = summed (inflow a i d) (take_of d a i) (inflow-is d) st tm

  pub holds-is : (d : Side) (st : ℕ → State) (tm : ℕ → Terms)
      → sum_by (λ t. hold a i d (st t) (tm t)) trades ≡ over (hold_of d a i) st tm
  holds-is d st tm = summed (hold a i d) (hold_of d a i) (hold-is d) st tm
