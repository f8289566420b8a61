use Rattle.std.proofs.Common.{◌≡◌, ◌-◌, ◌*◌, ◌≤◌}
use Rattle.std.specs.Prelude.{replicate, vec_capacity}
use Rattle.layer_commands.specs.Runs.{Puts}
use Rattle.layer_commands.proofs.runs.put_zeros.Given as goal

abbrev pub invariant-loop-left : goal.invariant-loop-left
invariant-loop-left g l = record {
  puts : Puts (g.B.Sink.written l.fn.out) (g.B.Sink.written l.out) l.fn.kept.items l.kept.items (replicate (512 * l.count - l.left) 0);
  within : l.left ≤ 512 * l.count;
  room : vec_capacity l.fn.kept ≤ vec_capacity l.kept;
  faults : g.B.Sink.faults l.out ≡ g.B.Sink.faults l.fn.out;
}

abbrev pub decreases-loop-left : goal.decreases-loop-left
decreases-loop-left g l = l.left
