-- Sorted segments without overlap, and leaves of them.
use Rattle.std.specs.Prelude.{◌≡◌, ℕ, zero, suc, ◌+◌, ◌<◌, ◌≤◌, ◌⊎◌, List, [], ◌∷◌, ◌++◌, length, take, drop, slice_index_or, All}
use Rattle.seg_table.specs.declared.segment.Segment.{Segment}
use Rattle.seg_table.specs.Cells.{cell_in, onward, Sets, IsEdge}
use Rattle.seg_table.specs.Put.{IsPut}

-- a segment that may be put, and begins at `low` or later
pub record IsSegment (low : ℕ) (segment : Segment) : Type 0 where
  pub order : low ≤ segment.extent.at
  pub put : IsPut segment

-- each segment begins where the one before it ends, or later
abbrev pub AreSegments : ℕ → List Segment → Type 0
AreSegments low [] = Unit {0}
AreSegments low (segment ∷ segments) = IsSegment low segment × AreSegments (segment.extent.at + segment.extent.count) segments

-- where the last segment ends, or else `low`
abbrev pub segments_end : ℕ → List Segment → ℕ
segments_end low [] = low
segments_end low (segment ∷ segments) = segments_end (segment.extent.at + segment.extent.count) segments

-- where the first segment begins, or else 0
abbrev pub first_of : List Segment → ℕ
first_of [] = 0
first_of (segment ∷ segments) = segment.extent.at

-- the segments of leaves, one leaf after another
abbrev pub joined : List (List Segment) → List Segment
joined [] = []
joined (leaf ∷ leaves) = leaf ++ joined leaves

-- a leaf has 1 to 255 segments
abbrev pub IsLeaf : List Segment → Type 0
IsLeaf leaf = (0 < length leaf) × (length leaf ≤ 255)

-- what a table keeps: leaves whose segments rise through all of them
pub record AreLeaves (leaves : List (List Segment)) : Type 0 where
  pub sizes : All IsLeaf leaves
  pub sorted : AreSegments 0 (joined leaves)

-- and for so many puts there is room among so many leaves, with a spare leaf for each put
pub record AreRoomy (leaves : List (List Segment)) (len capacity spares spare : ℕ) : Type 0 where
  pub are : AreLeaves leaves
  pub room : len + spare ≤ capacity
  pub enough : spare ≤ spares

-- the new segments are the old ones with one put into them, which makes no edges but its own two
pub record IsPutInto (segment : Segment) (old new : List Segment) : Type 0 where
  pub sorted : AreSegments 0 new
  pub cells : Sets (cell_in old) (cell_in new) segment
  pub edges : (sector : ℕ) → IsEdge new sector
      → IsEdge old sector ⊎ ((sector ≡ segment.extent.at) ⊎ (sector ≡ segment.extent.at + segment.extent.count))
  pub few : length new ≤ length old + 2

-- a segment begins where another ends, with what follows there
pub record GoesOn (first second : Segment) : Type 0 where
  pub touches : first.extent.at + first.extent.count ≡ second.extent.at
  pub runs : onward first.what first.extent.count ≡ second.what

-- both as one segment
pub record IsBoth (first second both : Segment) : Type 0 where
  pub at : both.extent.at ≡ first.extent.at
  pub end : both.extent.at + both.extent.count ≡ second.extent.at + second.extent.count
  pub what : both.what ≡ first.what
  pub put : IsPut both

-- the new segments are the old ones, of which some that go on into each other were made one
pub record IsJoined (old new : List Segment) : Type 0 where
  pub sorted : AreSegments 0 new
  pub cells : (sector : ℕ) → cell_in new sector ≡ cell_in old sector
  pub edges : (sector : ℕ) → IsEdge new sector → IsEdge old sector
  pub few : length new ≤ length old
  pub some : 0 < length old → 0 < length new

-- the new segments are what the old ones have from `end` on
pub record IsBeyond (end : ℕ) (old new : List Segment) : Type 0 where
  pub sorted : AreSegments end new
  pub cells : (sector : ℕ) → end ≤ sector → cell_in new sector ≡ cell_in old sector
  pub edges : (sector : ℕ) → IsEdge new sector → IsEdge old sector ⊎ (sector ≡ end)
  pub few : length new ≤ length old

-- and what they have before `end`
pub record IsBefore (end : ℕ) (old new : List Segment) : Type 0 where
  pub sorted : AreSegments 0 new
  pub ends : segments_end 0 new ≤ end
  pub cells : (sector : ℕ) → sector < end → cell_in new sector ≡ cell_in old sector
  pub edges : (sector : ℕ) → IsEdge new sector → IsEdge old sector ⊎ (sector ≡ end)

-- from the leaf of that number on, the new leaves have what the old ones have there from `end` on
pub record AreCleared (number end : ℕ) (old new : List (List Segment)) : Type 0 where
  pub front : take number new ≡ take number old
  pub sizes : All IsLeaf (drop number new)
  pub beyond : IsBeyond end (joined (drop number old)) (joined (drop number new))

-- all but one are leaves, and that one has at most two segments more
pub record AreAllBut (number : ℕ) (leaves : List (List Segment)) : Type 0 where
  pub within : number < length leaves
  pub below : All IsLeaf (take number leaves)
  pub above : All IsLeaf (drop (number + 1) leaves)
  pub some : 0 < length (slice_index_or leaves number [])
  pub most : length (slice_index_or leaves number []) ≤ 257

-- the segments of leaves from a place on: of the leaf of one number those from another number on, and those of the leaves behind it
abbrev pub left_at : List (List Segment) → ℕ → ℕ → List Segment
left_at [] leaf number = []
left_at (segments ∷ leaves) zero number = drop number segments ++ joined leaves
left_at (segments ∷ leaves) (suc leaf) number = left_at leaves leaf number

-- the leaf has a segment of that number, or there is no leaf of that number, which is the one behind the last
abbrev pub IsPlace : List (List Segment) → ℕ → ℕ → Type 0
IsPlace [] leaf number = leaf ≡ 0
IsPlace (segments ∷ leaves) zero number = number < length segments
IsPlace (segments ∷ leaves) (suc leaf) number = IsPlace leaves leaf number

-- the first segment ends past the sector
abbrev pub EndsPast : ℕ → List Segment → Type 0
EndsPast from [] = Unit {0}
EndsPast from (segment ∷ segments) = from < segment.extent.at + segment.extent.count

-- the last ones of sorted segments, which are those that end past a sector
pub record IsRest (segments : List Segment) (from : ℕ) (left : List Segment) : Type 0 where
  pub sorted : AreSegments 0 left
  pub past : EndsPast from left
  pub cells : (sector : ℕ) → from ≤ sector → cell_in left sector ≡ cell_in segments sector
  pub edges : (sector : ℕ) → IsEdge left sector → IsEdge segments sector
