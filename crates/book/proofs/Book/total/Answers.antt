use Rattle.std.proofs.Common.{◌≡◌, ◌+◌, ◌≤◌, sym, ap, arith, rules}
use Rattle.book.specs.Rulings.{holding_of}
use Rattle.book.proofs.Sums.{sum_below-none, sum_below-more}
use Rattle.book.proofs.Questions.{holding-is, amount-fits}
use Rattle.book.proofs.Book.total.Goals as goal

is-holding : (g : _) (c : goal.After-struct_known-1 g)
    → c.in_ok-holding.holding ≡ holding_of (g.Self.Book.holdings c.args.self.now) c.loop-account.account c.args.item
is-holding g c = holding-is g.Self.Book.book_kind
    (g.Self.Book.holdings c.args.self.now) c.loop-account.account c.args.item c.in_ok-holding.holding
    c.loop-account-test.true (omega arith) c.in_ok-holding.ensures

within : (g : _) (c : goal.After-struct_known-1 g)
    → c.loop-account.sum + (c.in_ok-holding.holding.free + c.in_ok-holding.holding.blocked)
    ≤ g.Self.Book.book_kind.ceiling
within g c = amount-fits
    (g.Self.Book.holdings c.args.self.now) c.loop-account.account c.args.item c.in_ok-holding.holding
    c.loop-account.sum g.Self.Book.book_kind.ceiling c.loop-account-test.true (is-holding g c)
    (g.met.Self.Book.within_limit c.args.self.now c.args.item) c.loop-account.invariant

pub loop-account-init : goal.loop-account-init
loop-account-init g c = sym (sum_below-none _)

pub overflow_add-sum : goal.overflow_add-sum
overflow_add-sum g c = let w = within g c in let n = g.met.Self.Book.kind_fits.2 in search rules

pub overflow_add-sum-in-loop-account : goal.overflow_add-sum-in-loop-account
overflow_add-sum-in-loop-account g c = let w = within g c in let n = g.met.Self.Book.kind_fits.2 in search rules

pub loop-account-preserved : goal.loop-account-preserved
loop-account-preserved g c =
    let b = g.Self.Book.holdings c.args.self.now in
    let n = sum_below-more c.loop-account.account (λ a. b.free a c.args.item + b.blocked a c.args.item) in
    let f : c.in_ok-holding.holding.free ≡ b.free c.loop-account.account c.args.item = ap (λ h. h.free)
    (is-holding g c) in
    let k : c.in_ok-holding.holding.blocked ≡ b.blocked c.loop-account.account c.args.item = ap (λ h. h.blocked)
    (is-holding g c) in
    omega (arith, n, c.loop-account.invariant)
