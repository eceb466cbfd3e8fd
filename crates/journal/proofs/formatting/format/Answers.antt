use Rattle.std.proofs.Common.{◌≡◌, ◌<◌, ◌≤◌, false, arith}
use Rattle.std.proofs.lemmas.Grind.{common_steps}
use Rattle.journal.specs.Blocks.{header_bytes}
use Rattle.journal.specs.Format.{header_for_kinds, no_room, Formats}
use Rattle.journal.proofs.Fresh.{cut-first, cut-second, all-steps, fresh-journal}
use Rattle.journal.proofs.Placing.{format-placed}
use Rattle.journal.proofs.Tracks.{track-first, track-second, track-all}
use Rattle.journal.proofs.formatting.format.Goals as goal

pub returns-in_err-write_and_sync-clause-after : goal.returns-in_err-write_and_sync-clause-after
returns-in_err-write_and_sync-clause-after g c room =
    let a = c.in_err-write_and_sync.ensures.answer in
    cut-first _ _ c.write_and_sync.ensures.after (grind arith)

pub returns-in_err-write_and_sync-clause-trace : goal.returns-in_err-write_and_sync-clause-trace
returns-in_err-write_and_sync-clause-trace g c =
    let a = c.in_err-write_and_sync.ensures.answer in
    let h = header_for_kinds c.args.register c.args.cash c.args.pairs in
    let before = g.D.Device.medium c.args.device.now in
    let room : no_room c.args.pairs before.size ≡ false = grind arith in
    track-first (header_bytes h) c.args.pairs before.size before.calls_left room g.D.Device.makes _ _
    c.write_and_sync.ensures.trace (grind arith)

pub returns-in_err-blank_marks-clause-after : goal.returns-in_err-blank_marks-clause-after
returns-in_err-blank_marks-clause-after g c room =
    let a = c.in_err-blank_marks.ensures.answer in
    let b = c.in_ok-write_and_sync.ensures.answer in
    let begun : 2 ≤ (g.D.Device.medium c.args.device.now).calls_left = grind arith in
    let ended : (g.D.Device.medium c.write_and_sync.new.device).calls_left ≤ c.args.pairs = grind arith in
    cut-second _ _ c.write_and_sync.ensures.after begun c.blank_marks.ensures.after
    (omega (arith, c.write_and_sync.ensures.after.calls_left, ended))

pub returns-in_err-blank_marks-clause-trace : goal.returns-in_err-blank_marks-clause-trace
returns-in_err-blank_marks-clause-trace g c =
    let a = c.in_err-blank_marks.ensures.answer in
    let b = c.in_ok-write_and_sync.ensures.answer in
    let h = header_for_kinds c.args.register c.args.cash c.args.pairs in
    let before = g.D.Device.medium c.args.device.now in
    let room : no_room c.args.pairs before.size ≡ false = grind arith in
    let begun : 2 ≤ before.calls_left = grind arith in
    let ended : (g.D.Device.medium c.write_and_sync.new.device).calls_left ≤ c.args.pairs = grind arith in
    track-second
    (header_bytes h) c.args.pairs before.size before.calls_left room g.D.Device.makes _ _
    c.write_and_sync.ensures.trace _
    (omega (arith, c.write_and_sync.ensures.after.calls_left, begun)) _ c.blank_marks.ensures.trace ended

pub returns : goal.returns
returns g c =
    let a = c.in_ok-blank_marks.ensures.answer in
    let b = c.in_ok-write_and_sync.ensures.answer in
    let d = c.write_and_sync-2.ensures.answer in
    let h = header_for_kinds c.args.register c.args.cash c.args.pairs in
    let before = g.D.Device.medium c.args.device.now in
    let after = g.D.Device.medium c.write_and_sync-2.new.device in
    let left = c.write_and_sync.ensures.after.calls_left in
    let begun : 2 ≤ before.calls_left = grind arith in
    let room : no_room c.args.pairs before.size ≡ false = grind arith in
    let ended : c.args.pairs < (g.D.Device.medium c.write_and_sync.new.device).calls_left = grind arith in
    let f : Formats (header_bytes h) c.args.pairs before after =
    all-steps _ _ c.write_and_sync.ensures.after begun c.blank_marks.ensures.after (omega arith)
    (rw c.to_block.ensures.value at c.write_and_sync-2.ensures.after) in
    record {
      answer = grind (arith, common_steps);
      refused = λ full. absurd (grind arith);
      after = λ r. f;
      trace =
          track-all (header_bytes h) c.args.pairs before.size before.calls_left room g.D.Device.makes _ _
          c.write_and_sync.ensures.trace _
          (omega (arith, left, begun)) _ c.blank_marks.ensures.trace _
          (omega (arith, c.blank_marks.ensures.after.calls_left, ended)) _
          (rw c.to_block.ensures.value at c.write_and_sync-2.ensures.trace);
      places =
          λ done. format-placed c.args.register c.args.cash c.args.pairs before after (omega arith) (grind arith) f;
      journal = λ done. fresh-journal h before after (omega arith) (grind arith) f;
    }
