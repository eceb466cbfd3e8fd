use Rattle.std.proofs.Common.{◌≡◌, ◌-◌, sym, ap, ◌∙◌}
use Rattle.ledger.specs.View.{rulebook_of}
use Rattle.device.specs.Medium.{Medium}
use Rattle.journal.proofs.ReadAnswers.{header-spends, header-unnamed}
use Rattle.engine.specs.View.{view}
use Rattle.engine.specs.Opening.{refused_view}
use Rattle.engine.proofs.Opens.{headed}
use Rattle.engine.proofs.Readings.{header-read, header-then, opening-traced}
use Rattle.engine.proofs.Findings.{opens-well, opens-keeping, opens-promptly}
use Rattle.engine.proofs.engine.Engine.open.Goals as goal

pub returns-in-Ok-clause-opened : goal.returns-in-Ok-clause-opened
returns-in-Ok-clause-opened g c =
    let e = c.in-Ok.ensures in
    c.from_entries.ensures.opened
    ∙ headed (rulebook_of g.R.Book.book_kind g.C.Book.book_kind)
    (g.D.Device.medium c.args.device) c.kind-register_kind.ensures c.kind-cash_kind.ensures e.after e.answer

pub returns-in-Err-clause-opened : goal.returns-in-Err-clause-opened
returns-in-Err-clause-opened g c =
    let e = c.in-Err.ensures in
    c.from_refusal.ensures.refused
    ∙ headed (rulebook_of g.R.Book.book_kind g.C.Book.book_kind)
    (g.D.Device.medium c.args.device) c.kind-register_kind.ensures c.kind-cash_kind.ensures e.after e.answer

pub returns-in-Ok-clause-found : goal.returns-in-Ok-clause-found
returns-in-Ok-clause-found g c =
    opens-well (rulebook_of g.R.Book.book_kind g.C.Book.book_kind) (g.D.Device.medium c.args.device)
    (returns-in-Ok-clause-opened g c) (g.met.D.Device.bounds c.args.device)

pub returns-in-Err-clause-found : goal.returns-in-Err-clause-found
returns-in-Err-clause-found g c =
    opens-well (rulebook_of g.R.Book.book_kind g.C.Book.book_kind) (g.D.Device.medium c.args.device)
    (returns-in-Err-clause-opened g c) (g.met.D.Device.bounds c.args.device)

pub returns-in-Ok-clause-prompt : goal.returns-in-Ok-clause-prompt
returns-in-Ok-clause-prompt g c =
    opens-promptly (rulebook_of g.R.Book.book_kind g.C.Book.book_kind) (g.D.Device.medium c.args.device)
    (returns-in-Ok-clause-opened g c)
    (g.met.D.Device.bounds c.args.device) g.met.R.Book.kind_fits.0 g.met.C.Book.kind_fits.0

pub returns-in-Err-clause-prompt : goal.returns-in-Err-clause-prompt
returns-in-Err-clause-prompt g c =
    opens-promptly (rulebook_of g.R.Book.book_kind g.C.Book.book_kind) (g.D.Device.medium c.args.device)
    (returns-in-Err-clause-opened g c)
    (g.met.D.Device.bounds c.args.device) g.met.R.Book.kind_fits.0 g.met.C.Book.kind_fits.0

pub returns-in-Ok-clause-kept : goal.returns-in-Ok-clause-kept
returns-in-Ok-clause-kept g c =
    opens-keeping (rulebook_of g.R.Book.book_kind g.C.Book.book_kind) (g.D.Device.medium c.args.device)
    (returns-in-Ok-clause-opened g c)

pub returns-in-Err-clause-kept : goal.returns-in-Err-clause-kept
returns-in-Err-clause-kept g c =
    opens-keeping (rulebook_of g.R.Book.book_kind g.C.Book.book_kind) (g.D.Device.medium c.args.device)
    (returns-in-Err-clause-opened g c)

pub returns-in-Ok-clause-trace : goal.returns-in-Ok-clause-trace
returns-in-Ok-clause-trace g c =
    let h = rulebook_of g.R.Book.book_kind g.C.Book.book_kind in
    let m = g.D.Device.medium c.args.device in
    let e = c.in-Ok.ensures in
    let spent = header-spends _ _ c.in-Ok.pairs m e.answer in
    let left : (g.D.Device.medium c.read_header.new.device).calls_left ≡ m.calls_left - 1 = ap
    (λ (d : Medium). d.calls_left) (e.after ∙ spent.1) in
    opening-traced g.D.Device.makes h m (view g.D.Device.medium c.from_entries.result) _ _
    (returns-in-Ok-clause-opened g c)
    (header-then g.D.Device.makes m.calls_left _ _ _ _ spent.0 e.trace (rw left at c.from_entries.ensures.trace))

pub returns-in-Err-clause-trace : goal.returns-in-Err-clause-trace
returns-in-Err-clause-trace g c =
    let m = g.D.Device.medium c.args.device in
    let e = c.in-Err.ensures in
    opening-traced g.D.Device.makes (rulebook_of g.R.Book.book_kind g.C.Book.book_kind) m
    (refused_view c.in-Err.fault (g.D.Device.medium c.read_header.new.device)) _ _
    (sym c.from_refusal.ensures.refused ∙ returns-in-Err-clause-opened g c)
    (rw c.from_refusal.ensures.device
    (header-read g.D.Device.makes m.calls_left c.in-Err.fault
    (header-unnamed _ _ m c.in-Err.fault e.answer) e.trace))
