use Rattle.std.proofs.Common.{◌-◌, [], ◌∷◌, length}
use Rattle.device.specs.Calls.{write_answer, spend_answer}
use Rattle.device.specs.Traces.{reading, writing, syncing, restarting}
use Rattle.check_drill.specs.Drills.{second_answer}
use Rattle.check_drill.proofs.Calls.{traced-long}
use Rattle.check_drill.proofs.exercise.drill.Goals as goal

pub returns-clause-calls : goal.returns-clause-calls
returns-clause-calls g c =
    let m = g.P.Device.medium c.args.device.now in
    let w = c.args.writes.now in
    let cut = c.args.cut.now in
    let bytes = w.bytes.now in
    let after_writes =
    restarting cut.calls_left cut.remains.now ∷ reading w.synced_block (length c.args.back.now) ∷ [] in
    traced-long g.P.Device.makes (writing w.synced_block bytes) syncing (writing w.loose_block bytes)
    (write_answer m w.synced_block (length bytes)) (spend_answer (m.calls_left - 1))
    (second_answer m w.loose_block (length bytes)) after_writes
    c.args.device.now c.write_blocks.new.device c.cut_and_read.new.device c.in_ok-write_blocks.ensures.writes.answer
    c.in_ok-write_blocks.ensures.calls
    c.cut_and_read.ensures.calls
