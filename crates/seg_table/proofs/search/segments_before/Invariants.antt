use Rattle.std.proofs.Common.{◌-◌, ◌<◌, ◌≤◌, length, take, slice_index_or}
use Rattle.seg_table.specs.declared.segment.Segment.{Segment}
use Rattle.seg_table.specs.Pieces.{end_of}
use Rattle.seg_table.specs.Segments.{segments_end}
use Rattle.seg_table.proofs.Halving.{Halved}
use Rattle.seg_table.proofs.search.segments_before.Given as goal

-- the segments below `low` end at the sector or before, and the one at `high` behind it
abbrev pub invariant-loop-low : goal.invariant-loop-low
invariant-loop-low g l =
    (l.low ≤ l.high) × (l.high ≤ length l.segments)
    × (segments_end 0 (take l.low l.segments) ≤ l.sector)
    × ((d : Segment) → l.high < length l.segments → l.sector < end_of (slice_index_or l.segments l.high d))
    × (l.initial.steps ≤ l.steps)
    × Halved (length l.segments) (l.steps - l.initial.steps) (l.high - l.low)

abbrev pub decreases-loop-low : goal.decreases-loop-low
decreases-loop-low g l = l.high - l.low
