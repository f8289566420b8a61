-- Sorted segments without overlap.
use Rattle.std.specs.Prelude.{◌≡◌, ℕ, ◌+◌, ◌^◌, ◌<◌, ◌≤◌, ◌⊎◌, false, List, [], ◌∷◌}
use Rattle.merged_index.specs.declared.segment.Segment.{Segment}

-- a segment that has a sector, begins at `low` or later and ends within the largest image, and whose sectors lie behind the header of a file
pub record IsSegment (low : ℕ) (segment : Segment) : Type 0 where
  pub order : low ≤ segment.at
  pub some : 0 < segment.count
  pub range : segment.at + segment.count ≤ 2 ^ 31
  pub from : segment.zeroed ≡ false → 8 ≤ segment.place
  pub to : segment.zeroed ≡ false → segment.place + segment.count ≤ 2 ^ 41

-- each segment begins where the one before it ends, or later
abbrev pub AreSegments : ℕ → List Segment → Type 0
AreSegments low [] = Unit {0}
AreSegments low (segment ∷ segments) = IsSegment low segment × AreSegments (segment.at + segment.count) segments

-- where the last segment ends, or else `low`
abbrev pub segments_end : ℕ → List Segment → ℕ
segments_end low [] = low
segments_end low (segment ∷ segments) = segments_end (segment.at + segment.count) segments

-- sectors from `from` up to `until` were cut out of segments: where these begin or end, or where a segment was cut
pub record IsKeptEdge (Begins : ℕ → Type 0) (from until sector : ℕ) : Type 0 where
  pub after : from ≤ sector
  pub before : sector ≤ until
  pub some : from < until
  pub is : Begins sector ⊎ (((sector ≡ from) × (0 < from)) ⊎ ((sector ≡ until) × (until < 2 ^ 31)))
