-- The cells of a range as a list of segments.
use Rattle.std.specs.Prelude.{◌≡◌, ℕ, ◌+◌, ◌<◌, ◌≤◌, ◌⊎◌, List, [], ◌∷◌, Option, Some, None}
use Rattle.sector_extent.specs.Places.{IsIn}
use Rattle.seg_table.specs.declared.segment.Segment.{Segment}
use Rattle.seg_table.specs.declared.segment.What.{What}
use Rattle.seg_table.specs.Cells.{what_at, IsEdge}
use Rattle.seg_table.specs.Put.{IsPut}

-- the sector after the last one of a segment
abbrev pub end_of : Segment → ℕ
end_of segment = segment.extent.at + segment.extent.count

-- no sector from `from` up to `until` is set
abbrev pub AreUnset : (ℕ → Option What) → ℕ → ℕ → Type 0
AreUnset cells from until = (sector : ℕ) → from ≤ sector → sector < until → cells sector ≡ None

-- the segment has the first cells that are set from `from` on: none before it is set, and it says of each of its sectors what the cell has
pub record IsNext (cells : ℕ → Option What) (from : ℕ) (segment : Segment) : Type 0 where
  pub begins : from ≤ segment.extent.at
  pub before : AreUnset cells from segment.extent.at
  pub says : (sector : ℕ) → IsIn segment.extent sector → cells sector ≡ Some (what_at segment sector)
  pub sound : IsPut segment

-- the segments are just the cells that are set from `from` up to `until`, in rising order, each cell once
abbrev pub AreCells : (ℕ → Option What) → ℕ → ℕ → List Segment → Type 0
AreCells cells from until [] = (from ≤ until) × AreUnset cells from until
AreCells cells from until (segment ∷ segments) = IsNext cells from segment × AreCells cells (end_of segment) until segments

-- a piece of a range ends where the range does, or where one of the segments begins or ends
abbrev pub IsUnparted : List Segment → ℕ → Segment → Type 0
IsUnparted segments until piece = (end_of piece ≡ until) ⊎ IsEdge segments (end_of piece)
