-- What a read of a top fills, and what it leaves to the layers below.
use Rattle.std.specs.Prelude.{◌≡◌, ℕ, ◌+◌, ◌<◌, ◌≤◌, List, [], ◌∷◌, ◌++◌, take, drop, slice_index_or}
use Rattle.sector_extent.specs.declared.extent.Extent.{Extent}
use Rattle.sector_extent.specs.Places.{IsIn}
use Rattle.flat_image.specs.Sheets.{Cell, Hole, paint, bytes_of, image_in}

-- the new bytes are the sectors that the old ones are, painted with the cells from that one on
abbrev pub Paints : List Cell → ℕ → ℕ → List ℕ → List ℕ → Type 0
Paints cells at count old new = new ≡ bytes_of (paint (image_in count old) (take count (drop at cells)))

-- the sheet says nothing of the sector of that number
abbrev pub IsHole : List Cell → ℕ → Type 0
IsHole cells i = slice_index_or cells i Hole ≡ Hole

-- the first holes from `from` on, up to the next sector that is none, or up to the end of the range
pub record IsNextGap (hole : ℕ → Type 0) (from until : ℕ) (gap : Extent) : Type 0 where
  pub begins : from ≤ gap.at
  pub before : (i : ℕ) → from ≤ i → i < gap.at → ¬ hole i
  pub some : 0 < gap.count
  pub holes : (i : ℕ) → IsIn gap i → hole i
  pub ends : gap.at + gap.count ≤ until
  pub whole : gap.at + gap.count < until → ¬ hole (gap.at + gap.count)

-- the extents are just the holes from `from` up to `until`, in rising order, each run of holes as one
abbrev pub AreGaps : (ℕ → Type 0) → ℕ → ℕ → List Extent → Type 0
AreGaps hole from until [] = (from ≤ until) × ((i : ℕ) → from ≤ i → i < until → ¬ hole i)
AreGaps hole from until (gap ∷ gaps) = IsNextGap hole from until gap × AreGaps hole (gap.at + gap.count) until gaps

-- the gaps of the sectors from `from` up to `until` were added behind the old ones
pub record AddsGaps (hole : ℕ → Type 0) (from until : ℕ) (old new : List Extent) : Type 0 where
  pub added : List Extent
  pub behind : new ≡ old ++ added
  pub gaps : AreGaps hole from until added
