use Rattle.std.proofs.Common.{◌≡◌, ◌+◌, ◌<◌, ◌≤◌, All, take, drop}
use Rattle.seg_table.specs.Cells.{cell_in}
use Rattle.seg_table.specs.Pieces.{AreCells, IsUnparted}
use Rattle.seg_table.specs.Segments.{IsPlace, IsRest, joined, left_at}
use Rattle.seg_table.proofs.search.find_in.Given as goal

-- the segments from the next place on are those that end past `until`
abbrev pub invariant-loop-pieces : goal.invariant-loop-pieces
invariant-loop-pieces g l =
    AreCells (cell_in (joined l.leaves)) l.from l.until (take l.pieces l.out) × (l.until ≤ l.end)
    × All (IsUnparted (joined l.leaves) l.end) (take l.pieces l.out)
    × (drop l.pieces l.out ≡ drop l.pieces l.initial.out)
    × IsPlace l.leaves l.next.leaf l.next.number
    × (l.until < l.end → IsRest (joined l.leaves) l.until (left_at l.leaves l.next.leaf l.next.number))
    × (l.initial.steps ≤ l.steps) × (l.steps ≤ l.initial.steps + l.pieces)
