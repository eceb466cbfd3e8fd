use Rattle.std.proofs.Common.{◌≡◌, false, rules}
use Rattle.rulebook.specs.Terms.{securities, cash}
use Rattle.ledger.specs.View.{rulebook_of}
use Rattle.device.specs.Traces.{IsTrace}
use Rattle.journal.specs.Blocks.{header_bytes}
use Rattle.journal.specs.Format.{no_room, format_answer, header_for_kinds, Formats, format_calls}
use Rattle.depository.proofs.Starts.{after-format}
use Rattle.depository.proofs.serving.format_for.Goals as goal

pub returns : goal.returns
returns g c =
    let h = rulebook_of g.R.Book.book_kind g.C.Book.book_kind in
    let means = g.D.Device.medium in
    let pairs = c.args.pairs in
    let before = c.args.device.now in
    let e = c.format.ensures in
    let head = header_bytes (header_for_kinds c.kind.result c.kind-2.result pairs) in
    let register : c.kind.result ≡ (h.book_kind securities).code = search rules in
    let money : c.kind-2.result ≡ (h.book_kind cash).code = search rules in
    let answer : c.format.result ≡ format_answer pairs (means before) = assumption e in
    let after : no_room pairs (means before).size ≡ false
    → Formats head pairs (means before) (means c.format.new.device) = assumption e in
    let trace : IsTrace g.D.Device.makes (format_calls head pairs (means before).size
    (means before).calls_left) before c.format.new.device = assumption e in
    after-format g.D.Device.makes means h pairs before c.format.new.device c.kind.result c.kind-2.result register
    money c.format.result answer after trace
