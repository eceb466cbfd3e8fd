use Rattle.std.proofs.Common.{rules}
use Rattle.book.proofs.Accepted.{ruling-self, outcome-self}
use Rattle.book.proofs.Book.release.Goals as goal

pub returns : goal.returns
returns g c =
    let same = ruling-self g.Self.Book.book_kind
    (g.Self.Book.holdings c.args.self.now) c.args.account c.args.item c.args.quantity in
    let left = outcome-self g.Self.Book.book_kind
    (g.Self.Book.holdings c.args.self.now) c.args.account c.args.item c.args.quantity in
    search rules
