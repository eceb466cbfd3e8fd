use Rattle.std.proofs.Common.{vec_items, rules}
use Rattle.ledger.specs.View.{rulebook_of, both_sides}
use Rattle.depository.proofs.Starts.{served}
use Rattle.depository.proofs.serving.serve.Goals as goal

pub returns-clause-served : goal.returns-clause-served
returns-clause-served g c =
    let books = both_sides (g.R.Book.holdings c.args.register) (g.C.Book.holdings c.args.cash) in
    assumption (served g.D.Device.makes g.D.Device.medium
    (rulebook_of g.R.Book.book_kind g.C.Book.book_kind) g.D.PoweredDevice.most_calls c.args.pairs c.args.device
    books (search rules) (search rules) g.met.D.Device.bounds
    {rs = vec_items c.run-depository.new.replies} c.in_default-formatted.ensures c.new-depository.ensures.moment
    (rw c.new-depository.ensures.device at c.run-depository.ensures.path))
