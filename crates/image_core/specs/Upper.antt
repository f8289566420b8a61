-- The upper part of an image: the sheets over its layers.
use Rattle.std.specs.Prelude.{◌≡◌, ℕ, ◌+◌, ◌-◌, List, [], ◌∷◌, Option, Some, None, slice_index_or}
use Rattle.sector_extent.specs.declared.extent.Extent.{Extent}
use Rattle.flat_image.specs.declared.base.Base.{Base}
use Rattle.flat_image.specs.Sheets.{Cell, Hole, Zero, Filled, painted}
use Rattle.flat_image.specs.RowCells.{sector_at}
use Rattle.flat_image.specs.Frozen.{Frozen}
use Rattle.top_writer.specs.Gaps.{IsHole, AddsGaps}
use Rattle.image_core.specs.Whole.{IsFilled}

-- a cell over another one
abbrev pub cell_over : Cell → Cell → Cell
cell_over under Hole = under
cell_over under Zero = Zero
cell_over under (Filled sector) = Filled sector

-- a sheet over another one
abbrev pub sheet_over : List Cell → List Cell → List Cell
sheet_over [] cells = cells
sheet_over (cell ∷ under) [] = cell ∷ under
sheet_over (cell ∷ under) (over ∷ cells) = cell_over cell over ∷ sheet_over under cells

-- a top over what is frozen
abbrev pub over_frozen : Option Frozen → List Cell → List Cell
over_frozen None top = top
over_frozen (Some frozen) top = sheet_over frozen.sheet top

-- the upper part of an image that is made of b: its top over its frozen sheet
abbrev pub upper : Base → List Cell
upper b = over_frozen b.frozen b.top

-- a sector of which the upper part says nothing
abbrev pub IsGap : Base → ℕ → Type 0
IsGap b i = IsHole (upper b) i

-- Of bytes that begin with the sector `at` of an image, the sectors from `from` up to `until` are painted with the cells.
abbrev pub IsOverlaid : List Cell → ℕ → ℕ → ℕ → List ℕ → List ℕ → Type 0
IsOverlaid cells at from until old new = IsFilled (λ i. painted (sector_at old (i - at)) (slice_index_or cells i Hole)) at from until old new

-- and so one extent after another
abbrev pub AreOverlaid : List Cell → ℕ → List Extent → List ℕ → List ℕ → Type 0
AreOverlaid cells at [] old new = new ≡ old
AreOverlaid cells at (extent ∷ extents) old new =
    (mid : List ℕ) × IsOverlaid cells at extent.at (extent.at + extent.count) old mid × AreOverlaid cells at extents mid new

-- the gaps of one extent after another were added
abbrev pub AreAdded : (ℕ → Type 0) → List Extent → List Extent → List Extent → Type 0
AreAdded hole [] old new = new ≡ old
AreAdded hole (extent ∷ extents) old new =
    (mid : List Extent) × AddsGaps hole extent.at (extent.at + extent.count) old mid × AreAdded hole extents mid new
