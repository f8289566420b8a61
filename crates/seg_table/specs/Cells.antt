-- What a table has at each sector of an image.
use Rattle.std.specs.Prelude.{◌≡◌, ℕ, ◌+◌, ◌-◌, ◌&&◌, ◌⊎◌, Bool, nat_le, nat_lt, if◌then◌else◌, List, [], ◌∷◌, Option, Some, None, Any}
use Rattle.std.specs.Option.{option_or}
use Rattle.sector_extent.specs.declared.extent.Extent.{Extent}
use Rattle.sector_extent.specs.Places.{IsIn}
use Rattle.seg_table.specs.declared.segment.Segment.{Segment}
use Rattle.seg_table.specs.declared.segment.What.{What}
use Rattle.seg_table.specs.declared.segment.What.TheVariants.{Place, Zero}

-- a table: the segments that it keeps, where a later one hides those before it, and for how many puts it has room
pub record Table : Type 0 where
  pub segments : List Segment
  pub spare : ℕ

-- what the sector has that stands so many behind one that has this: the places rise with the sectors
abbrev pub onward : What → ℕ → What
onward (Place place) steps = Place (place + steps)
onward Zero steps = Zero

-- what a segment says of one of its sectors
abbrev pub what_at : Segment → ℕ → What
what_at segment sector = onward segment.what (sector - segment.extent.at)

-- the extent has the sector
abbrev pub has : Extent → ℕ → Bool
has extent sector = nat_le extent.at sector && nat_lt sector (extent.at + extent.count)

-- what a segment says of a sector, and none where it does not have it
abbrev pub said_by : Segment → ℕ → Option What
said_by segment sector = if has segment.extent sector then Some (what_at segment sector) else None

-- what the last of the segments that have the sector says of it, and none where no segment has it
abbrev pub cell_in : List Segment → ℕ → Option What
cell_in [] sector = None
cell_in (segment ∷ later) sector = option_or (cell_in later sector) (said_by segment sector)

-- the cells of a table, by the number of the sector: none where the sector is not set
abbrev pub cells_of : Table → ℕ → Option What
cells_of table = cell_in table.segments

-- a put of the segment: it sets the cells of its sectors, and all others stay
pub record Sets (old new : ℕ → Option What) (segment : Segment) : Type 0 where
  pub inside : (sector : ℕ) → IsIn segment.extent sector → new sector ≡ Some (what_at segment sector)
  pub outside : (sector : ℕ) → (IsIn segment.extent sector → ⊥) → new sector ≡ old sector

-- one of the segments begins or ends at the sector
abbrev pub IsEdge : List Segment → ℕ → Type 0
IsEdge segments sector = Any (λ s. (s.extent.at ≡ sector) ⊎ (s.extent.at + s.extent.count ≡ sector)) segments
