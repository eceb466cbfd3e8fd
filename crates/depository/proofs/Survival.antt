-- The law of survival holds where a path ends, since each call keeps the tally.
use Rattle.std.proofs.Common.{◌+◌, ◌*◌, ◌≡◌, ℕ, ◌<◌, ◌≤◌, List, [], ◌∷◌, Some, None, Ok, Err, Option, sym, refl, ap, ◌∙◌, subst, arith}
use Rattle.std.specs.Option.{option_or}
use Rattle.refusals.specs.declared.Fault.{Fault}
use Rattle.refusals.specs.Numbers.{number_of}
use Rattle.instruction.specs.declared.Instruction.{Instruction}
use Rattle.instruction.specs.Layout.{IsEncodable}
use Rattle.book.specs.Holdings.{Holdings}
use Rattle.rulebook.specs.Terms.{Side, securities, cash}
use Rattle.rulebook.specs.Rules.{Rulebook}
use Rattle.rulebook.proofs.Whole.{law-of-the-ledger}
use Rattle.device.specs.Medium.{Medium, IsBounded}
use Rattle.device.specs.Calls.{Answer}
use Rattle.device.specs.Traces.{DeviceCall}
use Rattle.journal.specs.Journal.{Journal, write_entry_answer}
use Rattle.engine.specs.declared.engine.Mode.{Mode}
use Rattle.engine.specs.declared.engine.Mode.TheVariants.{Open, Down, Refused}
use Rattle.engine.specs.declared.slip.Contents.{Contents}
use Rattle.engine.specs.View.{View}
use Rattle.engine.specs.Asking.{opening_answer, contents_by_mode}
use Rattle.engine.specs.Instructing.{check_answer, Leaves}
use Rattle.engine.specs.StandingList.{standing_list, blocks_for_books}
use Rattle.engine.specs.Opening.{opening_view}
use Rattle.engine.proofs.Openings.{listed-is}
use Rattle.depository.specs.Orders.{Order, instruct_order, close_order, restart_order, open_order, ask_order}
use Rattle.depository.specs.declared.calls.Reply.{Reply}
use Rattle.depository.specs.declared.calls.Reply.TheVariants.{Misfit, ToOpen}
use Rattle.depository.specs.declared.calls.OpenReply.{OpenReply}
use Rattle.depository.specs.OwedSlip.{newest_known}
use Rattle.depository.specs.Moments.{Phase, running, shut, Moment, moment_in}
use Rattle.depository.specs.DeviceUse.{medium_in}
use Rattle.depository.specs.Calling.{Yields, LeadsTo, slip_answer, owed_after_open, reply_to_open}
use Rattle.depository.specs.CallTally.{Tally, tally_after, empty_tally, tally, tally_from}
use Rattle.depository.specs.Paths.{Path, no_calls, first_call, slip_of_call, last_known_slip}
use Rattle.depository.specs.Survival.{IsStandingList, JudgesLastSlip, SlipTellsTally, IsOpenAccepted, SurvivalLaw, AlsoHolds}
use Rattle.depository.proofs.KeepsTally.{SlipMatches, IsPairCount, InEngine, KeepsTallyBy, KeepsTallyIn, KeepsTally}
use Rattle.depository.proofs.Instructing.{instructed}
use Rattle.depository.proofs.Reopening.{closed, restarted, reopened}

-- The slip that is owed is the last known one: while no engine runs, and under one whose opening
-- was refused. Under an engine that is open or down nothing is claimed of it: that engine's own
-- slip will be known, and will be owed in its place.
abbrev pub OwesBy : Option Contents → Mode → Option Contents → Type 0
OwesBy last_slip Open l = Unit {0}
OwesBy last_slip (Down x) l = Unit {0}
OwesBy last_slip (Refused f) l = l ≡ last_slip

abbrev pub Owes : Option Contents → Phase → Option Contents → Type 0
Owes last_slip (running v) l = OwesBy last_slip v.mode l
Owes last_slip (shut m books) l = l ≡ last_slip

-- an option, or else another
or-none : {X : Type 0} (o : Option X) → option_or o None ≡ o
or-none None = refl
or-none (Some x) = refl

or-or : {X : Type 0} (a b c : Option X) → option_or a (option_or b c) ≡ option_or (option_or a b) c
or-or None b c = refl
or-or (Some x) b c = refl

-- equal replies to an open say the same
pub same-reply : {o o' : OpenReply} → ToOpen o ≡ ToOpen o' → o ≡ o'
same-reply e = cc

module _ (h : Rulebook) (most : ℕ) where
  -- this holds after each call, with what the call's own slip tells taken into account
  owes-at : (last_slip : Option Contents) {r r₀ : Reply} {b b₀ : Moment} → Yields r r₀ b b₀
      → Owes last_slip b₀.phase b₀.owed → Owes last_slip b.phase b.owed
  owes-at last_slip e o = subst (λ (n : Moment). Owes last_slip n.phase n.owed) (sym e.moment) o

  owes-left : (last_slip : Option Contents) (c w : Answer) (x : Instruction) (v v' : View) (l : Option Contents)
      → Leaves c w x v v' → OwesBy last_slip v.mode l → OwesBy last_slip v'.mode l
  owes-left last_slip (Err f) w x v v' l e o = subst (λ (z : View). OwesBy last_slip z.mode l) (sym e) o
  owes-left last_slip (Ok u) (Ok w) x v v' l a o = subst (λ z. OwesBy last_slip z l) (sym a.mode) tt
  owes-left last_slip (Ok u) (Err f) x v v' l a o = subst (λ z. OwesBy last_slip z l) (sym a.mode) tt

  owes-closed : (last_slip : Option Contents) (m : Mode) (n : ℕ) (l : Option Contents) → OwesBy last_slip m l
      → newest_known (contents_by_mode m n) l ≡ option_or (contents_by_mode m n) last_slip
  owes-closed last_slip Open n l o = refl
  owes-closed last_slip (Down x) n l o = refl
  owes-closed last_slip (Refused f) n l o = o

  owes-opened : (last_slip : Option Contents) (m : Mode) (l : Option Contents) → l ≡ last_slip
      → OwesBy last_slip m (owed_after_open m l)
  owes-opened last_slip Open l o = tt
  owes-opened last_slip (Down x) l o = tt
  owes-opened last_slip (Refused f) l o = o

  owes-next : (last_slip : Option Contents) (a : Phase) (l : Option Contents) (c : Order) (r : Reply) (b : Moment)
      → LeadsTo h most (moment_in a l) c r b → Owes last_slip a l
      → Owes (option_or (slip_of_call a c) last_slip) b.phase b.owed
  owes-next last_slip (running v) l (instruct_order x) r b d o = owes-at _ d.yields
      (owes-left last_slip (check_answer h x v)
      (write_entry_answer v.medium v.entry_count) x v d.after l d.engine.after o)
  owes-next last_slip (running v) l close_order r b d o = owes-at _ d (owes-closed last_slip v.mode v.entry_count l o)
  owes-next last_slip (running v) l (restart_order q remains) r b d o = owes-at _ d o
  owes-next last_slip (running v) l open_order r b d o = owes-at _ d o
  owes-next last_slip (running v) l (ask_order q) r b d o = owes-at _ d o
  owes-next last_slip (shut m books) l (instruct_order x) r b d o = owes-at _ d o
  owes-next last_slip (shut m books) l close_order r b d o = owes-at _ d o
  owes-next last_slip (shut m books) l (restart_order q remains) r b d o = owes-at _ d.yields o
  owes-next last_slip (shut m books) l open_order r b d o = owes-at _ d
      (owes-opened last_slip (opening_view h m).mode l o)
  owes-next last_slip (shut m books) l (ask_order q) r b d o = owes-at _ d o

  -- and so where a path ends
  owes-along : {D : Type 0} {makes : D → DeviceCall → D → Type 0} {means : D → Medium} {a b : Moment} {d e : D}
      {cs : List Order} {rs : List Reply} (last_slip : Option Contents) (q : Path makes means h most a d cs rs b e)
      → Owes last_slip a.phase a.owed
      → Owes (option_or (last_known_slip q) last_slip) b.phase b.owed
  unfolding last_known_slip
  owes-along last_slip (no_calls is) o = o
  owes-along last_slip (first_call {a = a} {m = m} {b = b} {c = c} {r = r} s q) o =
      subst (λ u. Owes u b.phase b.owed) (or-or (last_known_slip q) (slip_of_call a.phase c) last_slip)
      (owes-along (option_or (slip_of_call a.phase c) last_slip) q (owes-next last_slip a.phase a.owed c r m s.does o))

module _ (h : Rulebook) (most pairs : ℕ) (p : IsPairCount pairs) (c₁ : (h.book_kind securities).code < 256)
    (c₂ : (h.book_kind cash).code < 256) where
  -- what a call answers and where it leads, as `Yields` says it
  by-leads : (t : Tally) (c : Order) {r r₀ : Reply} {b b₀ : Moment} → Yields r r₀ b b₀
      → KeepsTally h pairs (tally_after t c r₀) b₀ → KeepsTally h pairs (tally_after t c r) b
  by-leads t c {r} {r₀} {b} {b₀} e k = subst (λ s. KeepsTally h pairs (tally_after t c s) b) (sym e.reply)
      (subst (λ n. KeepsTally h pairs (tally_after t c r₀) n) (sym e.moment) k)

  -- each call leaves a moment that keeps the tally after it
  kept-next : (t : Tally) (a : Phase) (l : Option Contents) (c : Order) (r : Reply) (b : Moment)
      → LeadsTo h most (moment_in a l) c r b → ((x : Instruction) → c ≡ instruct_order x → IsEncodable x)
      → IsBounded (medium_in a) → KeepsTally h pairs t (moment_in a l)
      → KeepsTally h pairs (tally_after t c r) b
  kept-next t (running v) l (instruct_order x) r b d fit bounded k = by-leads t (instruct_order x) d.yields
      (instructed h pairs p.few t x (fit x refl) v d.after l d.answer d.engine k)
  kept-next t (running v) l close_order r b d fit bounded k = by-leads t close_order d (closed h pairs t v l v.mode k)
  kept-next t (running v) l (restart_order q remains) r b d fit bounded k = by-leads t (restart_order q remains) d k
  kept-next t (running v) l open_order r b d fit bounded k = by-leads t open_order d k
  kept-next t (running v) l (ask_order q) r b d fit bounded k = by-leads t (ask_order q) d k
  kept-next t (shut m books) l (instruct_order x) r b d fit bounded k = by-leads t (instruct_order x) d k
  kept-next t (shut m books) l close_order r b d fit bounded k = by-leads t close_order d k
  kept-next t (shut m books) l (restart_order q remains) r b d fit bounded k = by-leads t
      (restart_order q remains) d.yields (restarted h pairs t m d.after q most d.device k.0, k.1)
  kept-next t (shut m books) l open_order r b d fit bounded k = by-leads t open_order d
      (reopened h pairs t m l p c₁ c₂ bounded k.0 k.1).kept
  kept-next t (shut m books) l (ask_order q) r b d fit bounded k = by-leads t (ask_order q) d k

  -- how the tally goes on, call by call
  tally-none : (t : Tally) (rs : List Reply) → tally_from t [] rs ≡ t
  unfolding tally_from
  tally-none t rs = refl

  tally-more : (t : Tally) (c : Order) (r : Reply) (cs : List Order) (rs : List Reply)
      → tally_from t (c ∷ cs) (r ∷ rs) ≡ tally_from (tally_after t c r) cs rs
  unfolding tally_from
  tally-more t c r cs rs = refl

  -- an open that leaves an engine open is accepted
  well : (m : Medium) (l : Option Contents) (r : Reply) → opening_answer (opening_view h m).mode ≡ Ok tt
      → r ≡ reply_to_open (opening_view h m) l → IsOpenAccepted r
  well m l r e is = (
    record {
      answer = opening_answer (opening_view h m).mode;
      found = (opening_view h m).found;
      slip_answer = slip_answer (opening_view h m).mode (opening_view h m).found (opening_view h m).last_found l;
    },
    is,
    e,
  )

  same-engine : {v w : View} → running v ≡ running w → v ≡ w
  same-engine e = cc

  no-misfit : {o : OpenReply} → ToOpen o ≡ Misfit → ⊥
  no-misfit e = cc

  module _ (t : Tally) where
    -- What the law says, from what a moment keeps of its tally. First, of an engine that is open or
    -- down: the standing list and the journal.
    engine-by : (v : View) (l : Option Contents) (m : Mode) → KeepsTallyBy h pairs t v l m
        → opening_answer m ≡ Ok tt → InEngine h pairs t v
    engine-by v l Open k e = k.1
    engine-by v l (Down x) k e = k.1
    engine-by v l (Refused f) k e = absurd cc

    engine-in : (b : Moment) → KeepsTally h pairs t b → (v : View) → b.phase ≡ running v
        → opening_answer v.mode ≡ Ok tt → InEngine h pairs t v
    engine-in b k v is e = engine-by v b.owed v.mode (subst (λ a. KeepsTallyIn h pairs t a b.owed) is k) e

    stands : (v : View) → InEngine h pairs t v → IsStandingList h t.list v
    stands v k = record {
      recorded = ap (standing_list v.medium) k.entry_count ∙ listed-is h pairs k.device.journal;
      runs = k.runs;
      determines = law-of-the-ledger h t.list v.standing k.runs;
    }

    journal-by : (v : View) (l : Option Contents) (m : Mode) → KeepsTallyBy h pairs t v l m
        → Journal (blocks_for_books h pairs) v.medium t.list t.in_hand
    journal-by v l Open k = k.1.device.journal
    journal-by v l (Down x) k = k.1.device.journal
    journal-by v l (Refused f) k = k.0.journal

    journal-in : (a : Phase) (l : Option Contents) → KeepsTallyIn h pairs t a l
        → Journal (blocks_for_books h pairs) (medium_in a) t.list t.in_hand
    journal-in (running v) l k = journal-by v l v.mode k
    journal-in (shut m books) l k = k.0.journal

    -- what is in hand, by the engine's mode
    idle-by : (v : View) (l : Option Contents) (m : Mode) → KeepsTallyBy h pairs t v l m → m ≡ Open
        → t.in_hand ≡ None
    idle-by v l Open k e = k.0
    idle-by v l (Down x) k e = absurd cc
    idle-by v l (Refused f) k e = absurd cc

    hand-by : (v : View) (l : Option Contents) (m : Mode) → KeepsTallyBy h pairs t v l m
        → (x : Instruction) → m ≡ Down x → t.in_hand ≡ Some x
    hand-by v l Open k x e = absurd cc
    hand-by v l (Down y) k x e = let same : y ≡ x = cc in k.0 ∙ ap (λ (z : Instruction). Some z) same
    hand-by v l (Refused f) k x e = absurd cc

    -- the slip that is owed tells the tally
    tells : (l : Option Contents) → SlipMatches l t → SlipTellsTally l t
    tells None k = record { no_slip = λ e. k; slip = λ c e. absurd cc }
    tells (Some d) k = record {
      no_slip = λ e. absurd cc;
      slip = λ c e. let same : d ≡ c = cc in (
        sym (ap (λ (z : Contents). z.entries) same) ∙ k.0,
        sym (ap (λ (z : Contents). z.hand) same) ∙ k.1,
      );
    }

    slip-in : (last_slip : Option Contents) (a : Phase) (l : Option Contents) → KeepsTallyIn h pairs t a l
        → Owes last_slip a l → (m : Medium) (books : Side → Holdings) → a ≡ shut m books → SlipTellsTally last_slip t
    slip-in last_slip (running v) l k o m books e = absurd cc
    slip-in last_slip (shut n others) l k o m books e = subst (λ u. SlipTellsTally u t) o (tells l k.1)

    -- the open that comes next: it is answered 0 if calls enough are left,
    enough : (a : Phase) (l : Option Contents) → KeepsTally h pairs t (moment_in a l)
        → IsBounded (medium_in a) → (m : Medium) (books : Side → Holdings) → a ≡ shut m books
        → 1 + 2 * pairs ≤ m.calls_left
        → (r : Reply) (z : Moment) → LeadsTo h most (moment_in a l) open_order r z → IsOpenAccepted r
    enough (running v) l k bounded m books e low r z d = absurd cc
    enough (shut n others) l k bounded m books e low r z d =
        let same : n ≡ m = ap medium_in e in
        let o = reopened h pairs t n l p c₁ c₂ bounded k.0 k.1 in
        well n l r (o.prompt (subst (λ (u : Medium). 1 + 2 * pairs ≤ u.calls_left) (sym same) low)) d.reply

    -- it is refused only with 13,
    refused : (a : Phase) (l : Option Contents) → KeepsTally h pairs t (moment_in a l)
        → IsBounded (medium_in a) → (r : Reply) (z : Moment) → LeadsTo h most (moment_in a l) open_order r z
        → (o : OpenReply) (f : Fault) → r ≡ ToOpen o → o.answer ≡ Err f → number_of f.refusal ≡ 13
    refused (running v) l k bounded r z d o f is e = absurd (no-misfit (sym is ∙ d.reply))
    refused (shut m books) l k bounded r z d o f is e =
        let same = same-reply (sym d.reply ∙ is) in
        (reopened h pairs t m l p c₁ c₂ bounded k.0 k.1).refused f (ap (λ (u : OpenReply). u.answer) same ∙ e)

    -- and answered 0 it judges the slip that is owed
    verdict : (last_slip : Option Contents) (a : Phase) (l : Option Contents)
        → KeepsTally h pairs t (moment_in a l) → Owes last_slip a l → IsBounded (medium_in a)
        → (r : Reply) (z : Moment) → LeadsTo h most (moment_in a l) open_order r z
        → (o : OpenReply) → r ≡ ToOpen o → o.answer ≡ Ok tt → (v : View) → z.phase ≡ running v
        → JudgesLastSlip last_slip o v
    verdict last_slip (running w) l k owes bounded r z d o is e v gives = absurd (no-misfit (sym is ∙ d.reply))
    verdict last_slip (shut m books) l k owes bounded r z d o is e v gives =
        let same = same-reply (sym d.reply ∙ is) in
        let engine : opening_view h m ≡ v = same-engine (sym (ap (λ (n : Moment). n.phase) d.moment) ∙ gives) in
        let j = (reopened h pairs t m l p c₁ c₂ bounded k.0 k.1).judged (ap (λ (u : OpenReply). u.answer) same ∙ e) in
        let j₁ = subst (λ (u : OpenReply). JudgesLastSlip l u (opening_view h m)) same j in
        let j₂ = subst (λ u. JudgesLastSlip l o u) engine j₁ in
        subst (λ u. JudgesLastSlip u o v) owes j₂

  module _ {D : Type 0} (makes : D → DeviceCall → D → Type 0) (means : D → Medium)
      (bounds : (x : D) → IsBounded (means x)) where
    bounded-in : (a : Phase) (x : D) → means x ≡ medium_in a → IsBounded (medium_in a)
    bounded-in a x e = subst IsBounded e (bounds x)

    path-means : {a b : Moment} {d e : D} {cs : List Order} {rs : List Reply}
        → Path makes means h most a d cs rs b e → means e ≡ medium_in b.phase
    path-means (no_calls is) = is
    path-means (first_call s q) = path-means q

    -- the tally is kept along a path
    kept-along : {a b : Moment} {d e : D} {cs : List Order} {rs : List Reply} (t : Tally)
        → Path makes means h most a d cs rs b e → KeepsTally h pairs t a → KeepsTally h pairs (tally_from t cs rs) b
    kept-along t (no_calls {a = a} is) k = subst (λ u. KeepsTally h pairs u a) (sym (tally-none t [])) k
    kept-along t (first_call {a = a} {m = m} {b = b} {d = d} {c = c} {r = r} {cs = cs} {rs = rs} s q) k =
        subst (λ u. KeepsTally h pairs u b) (sym (tally-more t c r cs rs))
        (kept-along (tally_after t c r) q
        (kept-next t a.phase a.owed c r m s.does s.fit (bounded-in a.phase d s.means-it) k))

    module _ {a b : Moment} {d e : D} {cs : List Order} {rs : List Reply} (start : KeepsTally h pairs empty_tally a)
        (none : Owes None a.phase a.owed) (q : Path makes means h most a d cs rs b e) where
      kept : KeepsTally h pairs (tally cs rs) b
      kept = kept-along empty_tally q start

      owes : Owes (last_known_slip q) b.phase b.owed
      owes = subst (λ u. Owes u b.phase b.owed) (or-none (last_known_slip q)) (owes-along h most None q none)

      bounded : IsBounded (medium_in b.phase)
      bounded = bounded-in b.phase e (path-means q)

      pub law : SurvivalLaw h most pairs (tally cs rs) (last_known_slip q) b
      law = record {
        stands = λ v is e. stands (tally cs rs) v (engine-in (tally cs rs) b kept v is e);
        journal = λ v is e. (engine-in (tally cs rs) b kept v is e).device.journal;
        open_hand = λ v is. idle-by (tally cs rs) v b.owed v.mode
            (subst (λ a. KeepsTallyIn h pairs (tally cs rs) a b.owed) is kept);
        down_hand = λ v is. hand-by (tally cs rs) v b.owed v.mode
            (subst (λ a. KeepsTallyIn h pairs (tally cs rs) a b.owed) is kept);
        slip = slip-in (tally cs rs) (last_known_slip q) b.phase b.owed kept owes;
        next_open = λ m books is low. enough (tally cs rs) b.phase b.owed kept bounded m books is
            (omega (arith, p.few, low));
        next_verdict = verdict (tally cs rs) (last_known_slip q) b.phase b.owed kept owes bounded;
      }

      pub also : AlsoHolds h most pairs (tally cs rs) b
      also = record {
        next_open = enough (tally cs rs) b.phase b.owed kept bounded;
        refused = refused (tally cs rs) b.phase b.owed kept bounded;
        journal = journal-in (tally cs rs) b.phase b.owed kept;
      }
