use Rattle.std.proofs.Common.{◌-◌, ◌≤◌}
use Rattle.seg_table.specs.Cells.{cell_in}
use Rattle.seg_table.specs.Pieces.{AreUnset}
use Rattle.seg_table.proofs.plain_search.next_in.Given as goal

abbrev pub invariant-loop-at : goal.invariant-loop-at
invariant-loop-at g l = (l.from ≤ l.at) × AreUnset (cell_in l.puts) l.from l.at × (l.initial.steps ≤ l.steps)

abbrev pub decreases-loop-at : goal.decreases-loop-at
decreases-loop-at g l = l.end - l.at
