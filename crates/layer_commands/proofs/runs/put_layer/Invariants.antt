use Rattle.std.proofs.Common.{◌≡◌, ◌≤◌}
use Rattle.std.specs.Prelude.{vec_capacity}
use Rattle.layer_commands.proofs.RunLaws.{Along}
use Rattle.layer_commands.proofs.runs.put_layer.Given as goal

abbrev pub invariant-loop-row : goal.invariant-loop-row
invariant-loop-row g l = record {
  along : Along l.file l.layer.head.sectors l.layer.head.index_at l.rows (g.B.Sink.written l.fn.out) (g.B.Sink.written l.out) l.fn.kept.items l.kept.items l.row-index l.at;
  room : vec_capacity l.fn.kept ≤ vec_capacity l.kept;
  faults : g.B.Sink.faults l.out ≡ g.B.Sink.faults l.fn.out;
}
