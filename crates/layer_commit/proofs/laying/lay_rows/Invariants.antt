use Rattle.std.proofs.Common.{◌≡◌, ◌+◌, ◌*◌, ◌≤◌, map, take, length}
use Rattle.std.specs.List.{concat}
use Rattle.seg_mapping.specs.Rows.{spelling}
use Rattle.layer_commit.specs.Laying.{Lays}
use Rattle.layer_commit.proofs.laying.lay_rows.Given as goal

abbrev pub invariant-loop-row : goal.invariant-loop-row
invariant-loop-row l = record {
  at : l.at ≡ l.fn.index_at + 16 * (l.first + l.row-index);
  few : l.first + l.row-index ≤ length l.rows;
  laid : Lays l.fn.from l.fn.index_at (concat (map spelling (take (l.first + l.row-index) l.rows))) l.fn.out l.out;
}
