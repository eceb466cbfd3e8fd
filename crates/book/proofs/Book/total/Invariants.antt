use Rattle.std.proofs.Common.{◌≡◌, ◌+◌}
use Rattle.book.specs.Sums.{sum_below}
use Rattle.book.proofs.Book.total.Given as goal

abbrev pub invariant-loop-account : goal.invariant-loop-account
invariant-loop-account g l = let b = g.Self.Book.holdings l.self in l.sum ≡ sum_below l.account
    (λ a. b.free a l.item + b.blocked a l.item)
