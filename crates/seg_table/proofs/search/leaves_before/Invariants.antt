use Rattle.std.proofs.Common.{◌-◌, ◌<◌, ◌≤◌, length, [], slice_index_or}
use Rattle.seg_table.specs.Segments.{first_of}
use Rattle.seg_table.proofs.Halving.{Halved}
use Rattle.seg_table.proofs.search.leaves_before.Given as goal

-- the leaf below `low` begins at the sector or before, and the one at `high` behind it
abbrev pub invariant-loop-low : goal.invariant-loop-low
invariant-loop-low g l =
    (l.low ≤ l.high) × (l.high ≤ length l.leaves)
    × (0 < l.low → first_of (slice_index_or l.leaves (l.low - 1) []) ≤ l.sector)
    × (l.high < length l.leaves → l.sector < first_of (slice_index_or l.leaves l.high []))
    × (l.initial.steps ≤ l.steps)
    × Halved (length l.leaves) (l.steps - l.initial.steps) (l.high - l.low)

abbrev pub decreases-loop-low : goal.decreases-loop-low
decreases-loop-low g l = l.high - l.low
