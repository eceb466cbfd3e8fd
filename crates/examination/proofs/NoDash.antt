-- No answer of a key is a dash.
use Rattle.std.proofs.Common.{◌≡◌, ℕ, ◌+◌, ◌*◌, ◌≤◌, true, List, [], ◌∷◌, drop, Some, None, Ok, Err, Option, Result, is_some, sym, refl, ap, ◌∙◌, subst, arith}
use Rattle.std.specs.List.{flat_map, AllByRecursion}
use Rattle.refusals.specs.declared.Refusal.{Refusal}
use Rattle.instruction.specs.declared.Instruction.{Instruction}
use Rattle.book.specs.declared.Holding.{Holding}
use Rattle.book.specs.Holdings.{Holdings}
use Rattle.rulebook.specs.Terms.{Side}
use Rattle.rulebook.specs.Rules.{Rulebook}
use Rattle.script.specs.declared.Request.{Request}
use Rattle.script.specs.declared.Request.TheVariants.{Instruct, Register, Cash, Cut}
use Rattle.device.specs.Medium.{Medium}
use Rattle.device.specs.Traces.{DeviceCall}
use Rattle.device.specs.Calls.{Answer as EngineAnswer}
use Rattle.engine.specs.declared.engine.Mode.{Mode}
use Rattle.engine.specs.declared.engine.Mode.TheVariants.{Open, Down, Refused}
use Rattle.engine.specs.declared.slip.Contents.{Contents}
use Rattle.engine.specs.View.{View}
use Rattle.engine.specs.Opening.{opening_view}
use Rattle.engine.specs.Asking.{opening_answer, contents_by_mode}
use Rattle.engine.specs.Instructing.{Leaves}
use Rattle.depository.specs.Orders.{Order, instruct_order, close_order, restart_order, open_order, ask_order}
use Rattle.depository.specs.declared.calls.Question.TheVariants.{Securities, Money}
use Rattle.depository.specs.declared.calls.Fact.TheVariants.{Holding as HoldingFact}
use Rattle.depository.specs.declared.calls.Reply.{Reply}
use Rattle.depository.specs.declared.calls.Reply.TheVariants.{ToInstruct, ToAsk}
use Rattle.depository.specs.declared.calls.OpenReply.{OpenReply}
use Rattle.depository.specs.OwedSlip.{newest_known}
use Rattle.depository.specs.Moments.{running, shut, Moment, moment_in}
use Rattle.depository.specs.Calling.{Yields, slip_answer, owed_after_open, as_fact, LeadsTo}
use Rattle.depository.specs.Paths.{Path, no_calls, first_call}
use Rattle.depository.specs.Survival.{IsOpenAccepted, RunFromFormat, Survives}
use Rattle.depository.proofs.Starts.{has-room}
use Rattle.depository.proofs.Survival.{same-reply}
use Rattle.examination.specs.Orders.{orders_of, orders_for}
use Rattle.examination.specs.Answers.{answer_of, HasNoDash, answers_for}

-- where an opening was refused, a slip is owed
abbrev Owed : Mode → Option Contents → Type 0
Owed Open l = Unit {0}
Owed (Down x) l = Unit {0}
Owed (Refused f) l = is_some l ≡ true

-- an engine is there, as between two lines
record Ready (a : Moment) : Type 0 where
  v : View
  l : Option Contents
  is : a ≡ moment_in (running v) l
  owed : Owed v.mode l

owed-left : (c w : EngineAnswer) (x : Instruction) (v v' : View) (l : Option Contents) → Leaves c w x v v'
    → Owed v.mode l → Owed v'.mode l
owed-left (Err f) w x v v' l e o = subst (λ z. Owed z.mode l) (sym e) o
owed-left (Ok u) (Ok w) x v v' l a o = subst (λ z. Owed z l) (sym a.mode) tt
owed-left (Ok u) (Err f) x v v' l a o = subst (λ z. Owed z l) (sym a.mode) tt

owed-kept : (m : Mode) (n : ℕ) (l : Option Contents) → Owed m l
    → is_some (newest_known (contents_by_mode m n) l) ≡ true
owed-kept Open n l o = refl
owed-kept (Down x) n l o = refl
owed-kept (Refused f) n l o = o

owed-opened : (m : Mode) (l : Option Contents) → is_some l ≡ true → Owed m (owed_after_open m l)
owed-opened Open l s = tt
owed-opened (Down x) l s = tt
owed-opened (Refused f) l s = s

owed-well : (m : Mode) (l : Option Contents) → opening_answer m ≡ Ok tt → Owed m l
owed-well Open l e = tt
owed-well (Down x) l e = tt
owed-well (Refused f) l e = absurd cc

presented-some : (m : Mode) (n : ℕ) (last : Option Instruction) (l : Option Contents) → is_some l ≡ true
    → is_some (slip_answer m n last l) ≡ true
presented-some m n last None s = absurd cc
presented-some Open n last (Some c) s = refl
presented-some (Down x) n last (Some c) s = refl
presented-some (Refused f) n last (Some c) s = refl

no-dash-instructed : (a : EngineAnswer) → HasNoDash (answer_of (ToInstruct a))
no-dash-instructed (Ok u) = tt
no-dash-instructed (Err f) = tt

no-dash-fact : (r : Result Holding Refusal) → HasNoDash (answer_of (ToAsk (as_fact HoldingFact r)))
no-dash-fact (Ok f) = tt
no-dash-fact (Err r) = tt

module _ (h : Rulebook) (most : ℕ) where
  -- a line is answered whole, and leaves an engine
  record Went (r : Reply) (b : Moment) : Type 0 where
    no_dash : HasNoDash (answer_of r)
    ready : Ready b

  went : {r r₀ : Reply} {b b₀ : Moment} → Yields r r₀ b b₀ → HasNoDash (answer_of r₀) → Ready b₀ → Went r b
  went e w y = record {
    no_dash = subst (λ z. HasNoDash (answer_of z)) (sym e.reply) w;
    ready = subst Ready
        (sym e.moment) y;
  }

  instructed : {a b : Moment} {r : Reply} (x : Instruction) → Ready a → LeadsTo h most a (instruct_order x) r b
      → Went r b
  instructed {a} {b} {r} x y d =
      let e = subst (λ z. LeadsTo h most z (instruct_order x) r b) y.is d in
      went e.yields (no-dash-instructed e.answer)
      (record { v = e.after; l = y.l; is = refl; owed = owed-left _ _ x y.v e.after y.l e.engine.after y.owed })

  asked-securities : {a b : Moment} {r : Reply} (account item : ℕ) → Ready a
      → LeadsTo h most a (ask_order (Securities account item)) r b → Went r b
  asked-securities {a} {b} {r} account item y d =
      let e = subst (λ z. LeadsTo h most z (ask_order (Securities account item)) r b) y.is d in
      went e (no-dash-fact _) (record { v = y.v; l = y.l; is = refl; owed = y.owed })

  asked-money : {a b : Moment} {r : Reply} (account currency : ℕ) → Ready a
      → LeadsTo h most a (ask_order (Money account currency)) r b → Went r b
  asked-money {a} {b} {r} account currency y d =
      let e = subst (λ z. LeadsTo h most z (ask_order (Money account currency)) r b) y.is d in
      went e (no-dash-fact _) (record { v = y.v; l = y.l; is = refl; owed = y.owed })

  reopened : {a d : Moment} {t : Reply} (b c : Moment) (r s : Reply) (q : ℕ) (remains : List ℕ) → Ready a
      → LeadsTo h most a close_order r b → LeadsTo h most b (restart_order q remains) s c
      → LeadsTo h most c open_order t d → Went t d
  reopened {a} {d} {t} b c r s q remains y closes restarts opens =
      let e = subst (λ z. LeadsTo h most z close_order r b) y.is closes in
      let slip = owed-kept y.v.mode y.v.entry_count y.l y.owed in
      let f = subst (λ z. LeadsTo h most z (restart_order q remains) s c) e.moment restarts in
      let g = subst (λ z. LeadsTo h most z open_order t d) f.yields.moment opens in
      let v = opening_view h f.after in
      went g (presented-some v.mode v.found v.last_found _ slip)
      (record { v = v; l = _; is = refl; owed = owed-opened v.mode _ slip })

  -- the first call of a path, and the rest of it
  record Next {D : Type 0} (makes : D → DeviceCall → D → Type 0) (means : D → Medium) (a : Moment) (d : D)
      (c : Order) (cs : List Order) (rs : List Reply) (b : Moment) (e : D) : Type 0 where
    moment : Moment
    device : D
    reply : Reply
    replies : List Reply
    is : rs ≡ reply ∷ replies
    does : LeadsTo h most a c reply moment
    path : Path makes means h most moment device cs replies b e

  next : {D : Type 0} {makes : D → DeviceCall → D → Type 0} {means : D → Medium} {a b : Moment} {d e : D}
      {c : Order} {cs : List Order} {rs : List Reply} → Path makes means h most a d (c ∷ cs) rs b e
      → Next makes means a d c cs rs b e
  next (first_call {m = m} {e = e} {r = r} {rs = rs} s q) = record {
    moment = m;
    device = e;
    reply = r;
    replies = rs;
    is = refl;
    does = s.does;
    path = q;
  }

  module _ {D : Type 0} (makes : D → DeviceCall → D → Type 0) (means : D → Medium) where
    no-dash-lines : (qs : List (Result Request Refusal)) (rs : List Reply) (a : Moment) (d : D) (b : Moment) (e : D)
        → Path makes means h most a d (flat_map orders_of qs) rs b e → Ready a
        → AllByRecursion HasNoDash (answers_for qs rs)
    no-dash-lines [] rs a d b e q y = tt
    no-dash-lines (Err r ∷ qs) rs a d b e q y = (tt, no-dash-lines qs rs a d b e q y)
    no-dash-lines (Ok (Instruct x) ∷ qs) rs a d b e q y =
        let n = next q in
        let w = instructed x y n.does in
        subst (λ z. AllByRecursion HasNoDash (answers_for (Ok (Instruct x) ∷ qs) z)) (sym n.is)
        (w.no_dash, no-dash-lines qs n.replies n.moment n.device b e n.path w.ready)
    no-dash-lines (Ok (Register p) ∷ qs) rs a d b e q y =
        let n = next q in
        let w = asked-securities p.account p.item y n.does in
        subst (λ z. AllByRecursion HasNoDash (answers_for (Ok (Register p) ∷ qs) z)) (sym n.is)
        (w.no_dash, no-dash-lines qs n.replies n.moment n.device b e n.path w.ready)
    no-dash-lines (Ok (Cash p) ∷ qs) rs a d b e q y =
        let n = next q in
        let w = asked-money p.account p.item y n.does in
        subst (λ z. AllByRecursion HasNoDash (answers_for (Ok (Cash p) ∷ qs) z)) (sym n.is)
        (w.no_dash, no-dash-lines qs n.replies n.moment n.device b e n.path w.ready)
    no-dash-lines (Ok (Cut c) ∷ qs) rs a d b e q y =
        let one = next q in
        let two = next one.path in
        let three = next two.path in
        let w = reopened one.moment two.moment one.reply two.reply c.calls_left c.remains y one.does two.does
        three.does in
        let is : rs ≡ one.reply ∷ two.reply ∷ three.reply ∷ three.replies = one.is
        ∙ ap (λ z. one.reply ∷ z) (two.is ∙ ap (λ z. two.reply ∷ z) three.is) in
        subst (λ z. AllByRecursion HasNoDash (answers_for (Ok (Cut c) ∷ qs) z)) (sym is)
        (w.no_dash, no-dash-lines qs three.replies three.moment three.device b e three.path w.ready)

    -- a first opening that is answered 0 leaves an engine
    first : (m : Medium) (books : Side → Holdings) (r : Reply) (b : Moment)
        → LeadsTo h most (moment_in (shut m books) None) open_order r b → IsOpenAccepted r → Ready b
    first m books r b d well =
        let v = opening_view h m in
        let same = same-reply (sym d.reply ∙ well.1) in
        subst Ready (sym d.moment) (record
        { v = v; l = _; is = refl; owed = owed-well v.mode _ (ap (λ (o : OpenReply). o.answer) same ∙ well.2) })

    pub no-dash-key : (pairs : ℕ) (d : D) (books : Side → Holdings) (qs : List (Result Request Refusal))
        (rs : List Reply) (b : Moment) (e : D) → Survives makes means h most pairs d books (orders_for qs) rs b e
        → 6 + 3 * pairs ≤ (means d).calls_left
        → AllByRecursion HasNoDash (answers_for qs (drop 1 rs))
    no-dash-key pairs d books qs rs b e s calls =
        let run = s.run in
        let m = means run.device in
        let n = next run.path in
        let left = (run.format.after (has-room pairs (means d) run.format.answer)).calls_left in
        let start : RunFromFormat makes means h most pairs d books [] []
        (moment_in (shut m books) None) run.device = record {
          device = run.device;
          format = run.format;
          path = no_calls refl;
        } in
        let well = (s.also [] [] (moment_in (shut m books) None) run.device start).next_open m books refl
        (omega (arith, left, calls)) n.reply n.moment n.does in
        subst (λ z. AllByRecursion HasNoDash (answers_for qs (drop 1 z))) (sym n.is)
        (no-dash-lines qs n.replies n.moment n.device b e n.path (first m books n.reply n.moment n.does well))
