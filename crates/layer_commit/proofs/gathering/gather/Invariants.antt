use Rattle.std.proofs.Common.{◌-◌, ◌^◌, ◌≤◌, ◌+◌, ◌≡◌}
use Rattle.seg_table.specs.Cells.{cells_of}
use Rattle.layer_commit.specs.Sources.{counted}
use Rattle.layer_commit.proofs.GatherLaws.{Gathered}
use Rattle.layer_commit.proofs.gathering.gather.Given as goal

abbrev pub invariant-loop-segment : goal.invariant-loop-segment
invariant-loop-segment l = record {
  from : l.from ≤ 2 ^ 31;
  gathered : Gathered (cells_of l.table) l.from l.gathering.rows l.gathering.sources.items;
  filled : l.gathering.filled ≡ 8 + counted l.gathering.sources.items;
  room : l.gathering.filled ≤ 8 + l.from;
}

abbrev pub decreases-loop-segment : goal.decreases-loop-segment
decreases-loop-segment l = 2 ^ 31 - l.from
