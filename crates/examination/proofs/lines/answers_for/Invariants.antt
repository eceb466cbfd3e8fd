use Rattle.std.proofs.Common.{◌≡◌, ◌≤◌, ◌++◌, length, drop, vec_items, vec_len, vec_capacity}
use Rattle.examination.specs.Answers.{answers_for}
use Rattle.examination.proofs.lines.answers_for.Given as goal

abbrev pub invariant-loop-request : goal.invariant-loop-request
invariant-loop-request l =
    (vec_len l.answers ≡ l.request-index) × (length l.requests ≤ vec_capacity l.answers)
    × (vec_items l.answers ++ answers_for (drop l.request-index l.requests) l.rest ≡ answers_for l.requests
    (drop 1 l.replies))
