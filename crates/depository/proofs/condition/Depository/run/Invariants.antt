use Rattle.std.proofs.Common.{◌≡◌, ◌≤◌, length, map, take, vec_items, vec_len, vec_capacity}
use Rattle.ledger.specs.View.{rulebook_of}
use Rattle.depository.specs.Orders.{order}
use Rattle.depository.specs.Moments.{moment_of}
use Rattle.depository.specs.DeviceUse.{device_of}
use Rattle.depository.specs.Paths.{Path}
use Rattle.depository.proofs.condition.Depository.run.Given as goal

abbrev pub invariant-loop-call : goal.invariant-loop-call
invariant-loop-call g l =
    (vec_len l.replies ≡ l.call-index) × (length l.calls ≤ vec_capacity l.replies)
    × (vec_capacity l.replies ≡ vec_capacity l.fn.replies)
    × Path g.D.Device.makes g.D.Device.medium
    (rulebook_of g.R.Book.book_kind g.C.Book.book_kind) g.D.PoweredDevice.most_calls (moment_of l.fn.self)
    (device_of l.fn.self.condition) (map order (take l.call-index l.calls))
    (vec_items l.replies) (moment_of l.depository) (device_of l.depository.condition)
