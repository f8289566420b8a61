use Rattle.std.proofs.Common.{◌≡◌, ◌≤◌, All, take, drop}
use Rattle.seg_table.specs.Cells.{cell_in}
use Rattle.seg_table.specs.Pieces.{AreCells, IsUnparted}
use Rattle.seg_table.proofs.plain_search.find_in.Given as goal

abbrev pub invariant-loop-pieces : goal.invariant-loop-pieces
invariant-loop-pieces g l =
    AreCells (cell_in l.puts) l.from l.until (take l.pieces l.out) × (l.until ≤ l.end)
    × All (IsUnparted l.puts l.end) (take l.pieces l.out)
    × (drop l.pieces l.out ≡ drop l.pieces l.initial.out) × (l.initial.steps ≤ l.steps)
