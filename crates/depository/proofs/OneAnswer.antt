-- Over a device whose kind leaves nothing open, calls have one list of answers.
use Rattle.std.proofs.Common.{◌≡◌, ℕ, List, ◌∷◌, None, Ok, Err, Option, sym, refl, ap, ◌∙◌, subst}
use Rattle.instruction.specs.declared.Instruction.{Instruction}
use Rattle.book.specs.Holdings.{Holdings}
use Rattle.rulebook.specs.Terms.{Side}
use Rattle.rulebook.specs.Rules.{Rulebook}
use Rattle.device.specs.Medium.{Medium}
use Rattle.device.specs.Calls.{Answer}
use Rattle.device.specs.Traces.{DeviceCall, restarting, IsTrace}
use Rattle.device.proofs.Traces.{traced-fixed}
use Rattle.journal.specs.Blocks.{header_bytes}
use Rattle.journal.specs.Format.{format_calls}
use Rattle.journal.specs.Journal.{write_entry_answer}
use Rattle.engine.specs.declared.slip.Contents.{Contents}
use Rattle.engine.specs.View.{View}
use Rattle.engine.specs.Opening.{header_for_books}
use Rattle.engine.specs.Instructing.{check_answer, Leaves}
use Rattle.engine.specs.Tracing.{instruct_calls, opening_calls}
use Rattle.depository.specs.declared.calls.Reply.{Reply}
use Rattle.depository.specs.declared.calls.Reply.TheVariants.{ToInstruct}
use Rattle.depository.specs.Orders.{Order, instruct_order, close_order, restart_order, open_order, ask_order}
use Rattle.depository.specs.Moments.{Phase, running, shut, Moment, moment_in}
use Rattle.depository.specs.Calling.{Yields, LeadsTo}
use Rattle.depository.specs.DeviceUse.{medium_in, UsesDevice}
use Rattle.depository.proofs.Determined.{IsDetermined}
use Rattle.depository.specs.Paths.{Path, no_calls, first_call}
use Rattle.depository.specs.Survival.{RunFromFormat}

-- two views with equal fields are equal
view-same : {v w : View} → v.mode ≡ w.mode → v.medium ≡ w.medium → v.standing ≡ w.standing → v.pairs ≡ w.pairs
    → v.found ≡ w.found → v.last_found ≡ w.last_found → v.entry_count ≡ w.entry_count → v ≡ w
view-same mode medium standing pairs found last count =
    λ i. record {
      mode = mode i;
      medium = medium i;
      standing = standing i;
      pairs = pairs i;
      found = found i;
      last_found = last i;
      entry_count = count i;
    }

-- what an instruction leaves is fixed but for the device
view-one : (c w : Answer) (x : Instruction) (v v₁ v₂ : View) → Leaves c w x v v₁ → Leaves c w x v v₂
    → v₁.medium ≡ v₂.medium → v₁ ≡ v₂
view-one (Err f) w x v v₁ v₂ one two e = one ∙ sym two
view-one (Ok u) (Ok t) x v v₁ v₂ one two e =
    view-same (one.mode ∙ sym two.mode) e (one.standing ∙ sym two.standing) (one.pairs ∙ sym two.pairs)
    (one.found ∙ sym two.found) (one.last_found ∙ sym two.last_found) (one.entry_count ∙ sym two.entry_count)
view-one (Ok u) (Err f) x v v₁ v₂ one two e =
    view-same (one.mode ∙ sym two.mode) e (one.standing ∙ sym two.standing) (one.pairs ∙ sym two.pairs)
    (one.found ∙ sym two.found) (one.last_found ∙ sym two.last_found) (one.entry_count ∙ sym two.entry_count)

-- what a path's first device means
starts-at : {D : Type 0} {makes : D → DeviceCall → D → Type 0} {means : D → Medium} {h : Rulebook} {most : ℕ}
    {a b : Moment} {d e : D} {cs : List Order} {rs : List Reply} → Path makes means h most a d cs rs b e
    → means d ≡ medium_in a.phase
starts-at (no_calls is) = is
starts-at (first_call s q) = s.means-it

module _ {D S : Type 0} (makes : D → DeviceCall → D → Type 0) (means : D → Medium) (seen : D → S)
    (z : IsDetermined makes means seen) (h : Rulebook) (most : ℕ) where
  -- two replies to a call, with the moments and the devices after them, are alike
  record Same (r r' : Reply) (b b' : Moment) (e e' : D) : Type 0 where
    reply : r ≡ r'
    moment : b ≡ b'
    device : seen e ≡ seen e'

  -- so are those of a call that says its reply and its moment,
  still : {r r₀ r' : Reply} {b b₀ b' : Moment} {e e' : D} → Yields r r₀ b b₀ → Yields r' r₀ b' b₀ → seen e ≡ seen e'
      → Same r r' b b' e e'
  still l l' s = record { reply = l.reply ∙ sym l'.reply; moment = l.moment ∙ sym l'.moment; device = s }

  -- and the devices of one that leaves them
  kept-device : {d d' e e' : D} → e ≡ d → e' ≡ d' → seen d ≡ seen d' → seen e ≡ seen e'
  kept-device p q s = ap seen p ∙ s ∙ ap seen (sym q)

  -- devices that are seen alike mean the same
  same-medium : {e e' : D} {m m' : Medium} → seen e ≡ seen e' → means e ≡ m → means e' ≡ m' → m ≡ m'
  same-medium {e} {e'} s p q = sym p ∙ z.meaning e e' s ∙ q

  module _ {r r' : Reply} {b b' : Moment} {d d' e e' : D} (s : seen d ≡ seen d') (t : means e ≡ medium_in b.phase)
      (t' : means e' ≡ medium_in b'.phase) where
    -- one call, given to alike depositories, ends alike: with an engine,
    running-one : (v : View) (l : Option Contents) (c : Order) → LeadsTo h most (moment_in (running v) l) c r b
        → LeadsTo h most (moment_in (running v) l) c r' b' → UsesDevice makes h (running v) c d e
        → UsesDevice makes h (running v) c d' e' → Same r r' b b' e e'
    running-one v l (instruct_order x) one two k k' =
        let q = traced-fixed makes seen z.fixed (instruct_calls h x v) d d' e e' k k' s in
        let medium : one.after.medium ≡ two.after.medium = same-medium q
        (t ∙ ap (λ n. medium_in n.phase) one.yields.moment)
        (t' ∙ ap (λ n. medium_in n.phase) two.yields.moment) in
        let after = view-one (check_answer h x v)
        (write_entry_answer v.medium v.entry_count) x v one.after two.after one.engine.after two.engine.after
        medium in
        record {
          reply = one.yields.reply ∙ ap ToInstruct (one.engine.answer ∙ sym two.engine.answer) ∙ sym two.yields.reply;
          moment = one.yields.moment ∙ ap (λ w. moment_in (running w) l) after ∙ sym two.yields.moment;
          device = q;
        }
    running-one v l close_order one two k k' = still one two (kept-device k k' s)
    running-one v l (restart_order q remains) one two k k' = still one two (kept-device k k' s)
    running-one v l open_order one two k k' = still one two (kept-device k k' s)
    running-one v l (ask_order q) one two k k' = still one two (kept-device k k' s)

    -- without one,
    shut-one : (m : Medium) (books : Side → Holdings) (l : Option Contents) (c : Order)
        → LeadsTo h most (moment_in (shut m books) l) c r b → LeadsTo h most (moment_in (shut m books) l) c r' b'
        → UsesDevice makes h (shut m books) c d e → UsesDevice makes h (shut m books) c d' e'
        → Same r r' b b' e e'
    shut-one m books l (instruct_order x) one two k k' = still one two (kept-device k k' s)
    shut-one m books l close_order one two k k' = still one two (kept-device k k' s)
    shut-one m books l (restart_order q remains) one two k k' =
        let p = z.fixed (restarting q remains) d d' e e' k k' s in
        let medium : one.after ≡ two.after = same-medium p (t ∙ ap (λ n. medium_in n.phase) one.yields.moment)
        (t' ∙ ap (λ n. medium_in n.phase) two.yields.moment) in
        record {
          reply = one.yields.reply ∙ sym two.yields.reply;
          moment = one.yields.moment ∙ ap (λ n. moment_in (shut n books) l) medium ∙ sym two.yields.moment;
          device = p;
        }
    shut-one m books l open_order one two k k' =
        still one two (traced-fixed makes seen z.fixed (opening_calls h m) d d' e e' k k' s)
    shut-one m books l (ask_order q) one two k k' = still one two (kept-device k k' s)

    -- in either phase
    step-one : (a : Phase) (l : Option Contents) (c : Order) → LeadsTo h most (moment_in a l) c r b
        → LeadsTo h most (moment_in a l) c r' b' → UsesDevice makes h a c d e → UsesDevice makes h a c d' e'
        → Same r r' b b' e e'
    step-one (running v) l c one two k k' = running-one v l c one two k k'
    step-one (shut m books) l c one two k k' = shut-one m books l c one two k k'

  -- two paths of the same calls have the same answers
  alike : {a : Moment} {d d' : D} {cs : List Order} {rs rs' : List Reply} {b b' : Moment} {e e' : D}
      → seen d ≡ seen d' → Path makes means h most a d cs rs b e → Path makes means h most a d' cs rs' b' e'
      → rs ≡ rs'
  alike s (no_calls is) (no_calls is') = refl
  alike s (first_call {a = a} {m = m} {d = d} {e = e} {c = c} {r = r} {cs = cs} {rs = rs} t p)
      (first_call {m = m'} {b = b'} {e = e'} {f = f'} {r = r'} {rs = rs'} t' p') =
      let n = step-one s (starts-at p) (starts-at p') a.phase a.owed c t.does t'.does t.uses t'.uses in
      let q = subst (λ k. Path makes means h most k e' cs rs' b' f') (sym n.moment) p' in
      let rest = alike n.device p q in
      λ i. n.reply i ∷ rest i

  -- the answers to calls from a format on are fixed by what is seen of the device before it
  pub one-answer : {pairs : ℕ} {d d' : D} {books : Side → Holdings} {cs : List Order} {rs rs' : List Reply}
      {b b' : Moment} {e e' : D} → seen d ≡ seen d' → RunFromFormat makes means h most pairs d books cs rs b e
      → RunFromFormat makes means h most pairs d' books cs rs' b' e' → rs ≡ rs'
  one-answer {pairs} {d} {d'} {books} {cs} {rs} {rs'} {b} {b'} {e} {e'} s one two =
      let calls : Medium → List DeviceCall = λ m. format_calls (header_bytes
      (header_for_books h pairs)) pairs m.size m.calls_left in
      let also = subst (λ m. IsTrace makes (calls m) d' two.device) (sym (z.meaning d d' s)) two.format.trace in
      let q = traced-fixed makes seen z.fixed (calls (means d)) d d' one.device two.device one.format.trace also s in
      let start = subst (λ m. Path makes means h most (moment_in (shut m books) None) two.device cs rs' b' e')
      (sym (z.meaning one.device two.device q)) two.path in
      alike q one.path start
