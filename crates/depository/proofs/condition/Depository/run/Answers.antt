use Rattle.std.proofs.Common.{◌≡◌, [], ◌∷◌, ◌++◌, get_or, vec_items, sym, ap, subst, rules}
use Rattle.ledger.specs.View.{rulebook_of}
use Rattle.depository.specs.declared.calls.Call.TheVariants.{Instruct, Close, Restart, Open, Ask}
use Rattle.depository.specs.Orders.{Order, instruct_order, close_order, restart_order, open_order, ask_order, order}
use Rattle.depository.specs.Moments.{moment_of}
use Rattle.depository.specs.DeviceUse.{device_of}
use Rattle.depository.specs.Paths.{Path, no_calls}
use Rattle.depository.proofs.Runs.{unasked, fit-of, next-order, asked-only, all-calls, means-it}
use Rattle.depository.proofs.condition.Depository.run.Goals as goal
use Rattle.depository.proofs.condition.Depository.run.Goals.{in-Instruct, in-Close, in-Restart, in-Open, in-Ask}

pub loop-call-init : goal.loop-call-init
loop-call-init g c =
    let a = moment_of c.args.self in
    let d = device_of c.args.self.condition in
    let start = subst (λ ys. Path g.D.Device.makes g.D.Device.medium
    (rulebook_of g.R.Book.book_kind g.C.Book.book_kind) g.D.PoweredDevice.most_calls a d [] ys a d)
    (sym c.requires.none) (no_calls (means-it c.args.self.condition)) in
    (search rules, search rules, search rules, start)

-- The call that is made is the next of the list, and its reply goes to the end of the replies.
pub loop-call-preserved : goal.loop-call-preserved
loop-call-preserved g c =
    let i = c.loop-call.invariant in
    let p = c.push_reserved.ensures in
    let before = c.loop-call.depository.condition in
    let calls = c.args.calls.now in
    let n = c.loop-call.call-index in
    let makes = g.D.Device.makes in
    let means = g.D.Device.medium in
    let h = rulebook_of g.R.Book.book_kind g.C.Book.book_kind in
    let most = g.D.PoweredDevice.most_calls in
    let old = vec_items c.loop-call.replies in
    let new = vec_items c.push_reserved.new.self in
    elim c.match-call.branch [
      | in-Instruct w ↦
          let e = w.instruct-reply.ensures in
          let o : Order = instruct_order w.in-Instruct.x in
          let next : get_or calls n unasked ≡ Instruct w.in-Instruct.x = assumption (w.in-Instruct.is) in
          let answered : new ≡ old ++ (w.instruct-reply.result ∷ []) = rw w.reply-is at p.items in (
            search rules,
            search rules,
            search rules,
            rw w.depository-is
                (next-order makes means h most unasked calls n o w.instruct-reply.result c.loop-call-test.true i.3
                (ap order next) (fit-of w.in-Instruct.x e.fit) e.does e.device
                (means-it w.instruct-reply.new.self.condition) answered),
          )
      | in-Restart w ↦
          let e = w.restart-reply.ensures in
          let o : Order = restart_order w.in-Restart.calls_left w.in-Restart.remains.now in
          let next : get_or calls n unasked ≡ Restart w.in-Restart.calls_left w.in-Restart.remains = assumption
          (w.in-Restart.is) in
          let answered : new ≡ old ++ (w.restart-reply.result ∷ []) = rw w.reply-is at p.items in (
            search rules,
            search rules,
            search rules,
            rw w.depository-is
                (next-order makes means h most unasked calls n o w.restart-reply.result c.loop-call-test.true i.3
                (ap order next) (λ x same. absurd cc) e.does e.device
                (means-it w.restart-reply.new.self.condition) answered),
          )
      | in-Ask w ↦
          let o : Order = ask_order w.in-Ask.question in
          let next : get_or calls n unasked ≡ Ask w.in-Ask.question = assumption (w.in-Ask.is) in
          let answered : new ≡ old ++ (w.ask-reply.result ∷ []) = rw w.reply-is at p.items in (
            search rules,
            search rules,
            search rules,
            rw w.depository-is
                (next-order makes means h most unasked calls n o w.ask-reply.result c.loop-call-test.true i.3
                (ap order next) (λ x same. absurd cc) w.ask-reply.ensures (asked-only makes means h most _ _ _)
                (means-it before) answered),
          )
      | in-Close w ↦
          let e = w.close-shut.ensures in
          let next : get_or calls n unasked ≡ Close = assumption (w.in-Close.is) in
          let answered : new ≡ old ++ (w.close-shut.result.1 ∷ []) = rw w.reply-is at p.items in (
            search rules,
            search rules,
            search rules,
            rw w.depository-is
                (next-order makes means h most unasked calls n close_order w.close-shut.result.1
                c.loop-call-test.true i.3 (ap order next) (λ x same. absurd cc) e.does e.device
                (means-it w.close-shut.result.0.condition) answered),
          )
      | in-Open w ↦
          let e = w.open-running.ensures in
          let next : get_or calls n unasked ≡ Open = assumption (w.in-Open.is) in
          let answered : new ≡ old ++ (w.open-running.result.1 ∷ []) = rw w.reply-is at p.items in (
            search rules,
            search rules,
            search rules,
            rw w.depository-is
                (next-order makes means h most unasked calls n open_order w.open-running.result.1
                c.loop-call-test.true i.3 (ap order next) (λ x same. absurd cc) e.does e.device
                (means-it w.open-running.result.0.condition) answered),
          )
    ]

pub returns-clause-path : goal.returns-clause-path
returns-clause-path g c =
    assumption (all-calls g.D.Device.makes g.D.Device.medium
    (rulebook_of g.R.Book.book_kind g.C.Book.book_kind) g.D.PoweredDevice.most_calls c.args.calls.now
    c.loop-call.call-index c.loop-call-test.false c.loop-call.invariant.3)
