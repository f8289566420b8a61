use Rattle.std.proofs.Common.{◌≡◌, ◌+◌, ◌-◌, ◌%◌, ◌^◌, ◌≤◌, vec_len}
use Rattle.std.specs.Io.KnownBytes.{Consumes}
use Rattle.layer_commands.proofs.reading.read_input.Given as goal

abbrev pub invariant-loop-bytes : goal.invariant-loop-bytes
invariant-loop-bytes g l = record {
  consumed : Consumes (g.A.Source.left l.fn.source) (g.A.Source.left l.source) l.bytes.items;
  few : vec_len l.bytes ≤ l.fn.most + 1;
  faults : g.A.Source.faults l.source ≡ g.A.Source.faults l.fn.source;
  whole : vec_len l.bytes ≤ l.fn.most → vec_len l.bytes % 512 ≡ 0;
  piece : vec_len l.piece ≡ 2 ^ 18;
}

abbrev pub decreases-loop-bytes : goal.decreases-loop-bytes
decreases-loop-bytes g l = l.fn.most + 1 - vec_len l.bytes
