-- What may be put into a table.
use Rattle.std.specs.Prelude.{ℕ, ◌+◌, ◌^◌, ◌<◌, ◌≤◌}
use Rattle.seg_table.specs.declared.segment.Segment.{Segment}
use Rattle.seg_table.specs.declared.segment.What.{What}
use Rattle.seg_table.specs.declared.segment.What.TheVariants.{Place, Zero}

-- so many sectors from that place on end at 2^55 at the latest
abbrev pub Fits : What → ℕ → Type 0
Fits (Place place) count = place + count ≤ 2 ^ 55
Fits Zero count = Unit {0}

-- the segment has a sector, and its places fit
pub record IsPut (segment : Segment) : Type 0 where
  pub some : 0 < segment.extent.count
  pub fits : Fits segment.what segment.extent.count
