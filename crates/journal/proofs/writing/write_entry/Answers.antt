use Rattle.std.proofs.Common.{refl, arith}
use Rattle.device.proofs.Answered.{write-passed, write-refused, sync-passed, sync-refused}
use Rattle.device.proofs.Traces.{traced-lasting}
use Rattle.journal.proofs.Entries.{mark-refused, all-called}
use Rattle.journal.proofs.writing.write_entry.Goals as goal

pub returns-in_err-write-clause-trace : goal.returns-in_err-write-clause-trace
returns-in_err-write-clause-trace g c =
    let w = write-refused
    (rw (c.record_block.ensures.value, c.record_block_number.ensures) at c.in_err-write.ensures.call)
    (omega (arith, c.requires.within)) refl in
    let none = w.1 in
    traced-lasting g.D.Device.makes _ _ 1 _ _ (omega arith)
    (_, rw (c.record_block.ensures.value, c.record_block_number.ensures) at c.write.ensures.kind, refl)

pub returns-in_err-sync-clause-trace : goal.returns-in_err-sync-clause-trace
returns-in_err-sync-clause-trace g c =
    let w = c.in_ok-write.ensures.call in
    let p = write-passed w in
    let s = sync-refused c.in_err-sync.ensures.call in
    traced-lasting g.D.Device.makes _ _ 2 _ _ (omega (arith, w.calls_left, p.calls, s.1)) (
      _,
      rw (c.record_block.ensures.value, c.record_block_number.ensures) at c.write.ensures.kind,
      (_, c.sync.ensures.kind, refl),
    )

pub returns-in_err-write-2-clause-trace : goal.returns-in_err-write-2-clause-trace
returns-in_err-write-2-clause-trace g c =
    let w = c.in_ok-write.ensures.call in
    let p = write-passed w in
    let s = c.in_ok-sync.ensures.call in
    let q = sync-passed s in
    let r = write-refused
    (rw (c.mark_block.ensures.value, c.mark_block_number.ensures) at c.in_err-write-2.ensures.call)
    (omega (arith, c.requires.within, s.size, w.elsewhere.size)) refl in
    traced-lasting g.D.Device.makes _ _ 3 _ _ (omega (arith, w.calls_left, p.calls, s.calls_left, q, r.1)) (
      _,
      rw (c.record_block.ensures.value, c.record_block_number.ensures) at c.write.ensures.kind,
      (
        _,
        c.sync.ensures.kind,
        (_, rw (c.mark_block.ensures.value, c.mark_block_number.ensures) at c.write-2.ensures.kind, refl),
      ),
    )

pub returns-clause-trace : goal.returns-clause-trace
returns-clause-trace g c =
    let w = c.in_ok-write.ensures.call in
    let p = write-passed w in
    let s = c.in_ok-sync.ensures.call in
    let q = sync-passed s in
    let r = write-passed c.in_ok-write-2.ensures.call in
    traced-lasting g.D.Device.makes _ _ 4 _ _ (omega (arith, w.calls_left, p.calls, s.calls_left, q, r.calls)) (
      _,
      rw (c.record_block.ensures.value, c.record_block_number.ensures) at c.write.ensures.kind,
      (
        _,
        c.sync.ensures.kind,
        (
          _,
          rw (c.mark_block.ensures.value, c.mark_block_number.ensures) at c.write-2.ensures.kind,
          (_, c.sync-2.ensures.kind, refl),
        ),
      ),
    )

pub returns-in_err-write-2-clause-after : goal.returns-in_err-write-2-clause-after
returns-in_err-write-2-clause-after g c =
    let w = rw (c.record_block.ensures.value, c.record_block_number.ensures) at c.in_ok-write.ensures.call in
    let s = c.in_ok-sync.ensures.call in
    mark-refused c.args.entry _ _ w s
    (rw (c.mark_block.ensures.value, c.mark_block_number.ensures) at c.in_err-write-2.ensures.call)
    (omega (arith, c.requires.within, s.size, w.elsewhere.size)) refl

pub returns-clause-after : goal.returns-clause-after
returns-clause-after g c =
    let w = rw (c.record_block.ensures.value, c.record_block_number.ensures) at c.in_ok-write.ensures.call in
    all-called c.args.entry _ _ w c.in_ok-sync.ensures.call
    (rw (c.mark_block.ensures.value, c.mark_block_number.ensures) at c.in_ok-write-2.ensures.call) c.sync-2.ensures.call
