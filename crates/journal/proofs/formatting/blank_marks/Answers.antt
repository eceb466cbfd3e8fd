use Rattle.std.proofs.Common.{◌≡◌, refl, arith}
use Rattle.device.proofs.Answered.{write-refused}
use Rattle.journal.proofs.Blanks.{none-blank, one-more, cut-short, all-blank}
use Rattle.journal.proofs.Tracks.{no-marks, mark-more, marks-cut, marks-synced}
use Rattle.journal.proofs.formatting.blank_marks.Goals as goal

pub returns-in_err-write-clause-after : goal.returns-in_err-write-clause-after
returns-in_err-write-clause-after g c =
    cut-short c.loop-entry.invariant.0 c.loop-entry-test.true c.requires.within
    (rw c.mark_block_number.ensures at c.in_err-write.ensures.call)

pub returns-in_err-write-clause-trace : goal.returns-in_err-write-clause-trace
returns-in_err-write-clause-trace g c =
    let i = c.loop-entry.invariant in
    let k = c.loop-entry.entry in
    let none = (write-refused (rw c.mark_block_number.ensures at c.in_err-write.ensures.call)
    (omega (arith, i.0.size, c.requires.within, c.loop-entry-test.true)) refl).1 in
    marks-cut g.D.Device.makes _ _ _ k c.args.pairs _
    (omega (arith, i.0.calls_left, none)) c.loop-entry-test.true i.1
    (rw c.mark_block_number.ensures at c.write.ensures.kind)

pub loop-entry-init : goal.loop-entry-init
loop-entry-init g c = (none-blank _, rw no-marks refl)

pub loop-entry-preserved : goal.loop-entry-preserved
loop-entry-preserved g c =
    let i = c.loop-entry.invariant in (
      one-more i.0
          (rw c.mark_block_number.ensures at c.in_ok-write.ensures.call),
      mark-more g.D.Device.makes _ _ _ c.loop-entry.entry i.1 (rw c.mark_block_number.ensures at c.write.ensures.kind),
    )

pub returns-clause-after : goal.returns-clause-after
returns-clause-after g c =
    let full : c.loop-entry.entry ≡ c.args.pairs = omega arith in
    all-blank (rw full at c.loop-entry.invariant.0) c.sync.result c.sync.ensures.call

pub returns-clause-trace : goal.returns-clause-trace
returns-clause-trace g c =
    let i = c.loop-entry.invariant in
    let full : c.loop-entry.entry ≡ c.args.pairs = omega arith in
    marks-synced g.D.Device.makes _ _ _ c.args.pairs _ (omega (arith, i.0.calls_left))
    (rw full at i.1) c.sync.ensures.kind
