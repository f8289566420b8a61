use Rattle.std.proofs.Common.{◌≡◌, ◌⊎◌, ℕ, ◌<◌, ◌≤◌, take}
use Rattle.merged_index.specs.Cells.{cell_at, IsSegmentEdge}
use Rattle.merged_index.specs.Segments.{AreSegments, segments_end, IsKeptEdge}
use Rattle.merged_index.proofs.paint.keep.Given as goal

-- the segments below `number` end at `until` or before, and what they have from `from` on was added
abbrev pub invariant-loop-number : goal.invariant-loop-number
invariant-loop-number l =
    (segments_end 0 (take l.number l.lower) ≤ l.until)
    × AreSegments 0 l.made.items
    × ((q : ℕ) → l.from ≤ q → segments_end 0 (take l.number l.lower) ≤ q → segments_end 0 l.made.items ≤ q)
    × (segments_end 0 l.made.items ≤ l.until)
    × ((p : ℕ) → p < l.from → cell_at l.made.items p ≡ cell_at l.initial.made.items p)
    × ((p : ℕ) → l.from ≤ p → p < segments_end 0 (take l.number l.lower) → cell_at l.made.items p ≡ cell_at l.lower p)
    × ((p : ℕ) → IsSegmentEdge l.made.items p → IsSegmentEdge l.initial.made.items p ⊎ IsKeptEdge (IsSegmentEdge l.lower) l.from l.until p)
