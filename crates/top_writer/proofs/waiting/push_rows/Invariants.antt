use Rattle.std.proofs.Common.{◌≡◌, ◌+◌, ◌*◌, ◌≤◌, vec_len, vec_capacity}
use Rattle.top_writer.proofs.Pushing.{Pushed}
use Rattle.top_writer.proofs.waiting.push_rows.Given as goal

abbrev pub invariant-loop-number : goal.invariant-loop-number
invariant-loop-number l =
    Pushed l.extent.at l.extent.count l.what l.fn.waiting.items l.waiting.items l.number
    × (vec_len l.waiting ≡ vec_len l.fn.waiting + 16 * l.number)
    × (vec_capacity l.fn.waiting ≤ vec_capacity l.waiting)
    × (l.number ≤ l.number-end)
