-- Where the sectors of the new file stand in the frozen data file, and the sheet of a table.
use Rattle.std.specs.Prelude.{◌≡◌, ℕ, ◌+◌, ◌*◌, ◌^◌, ◌<◌, ◌≤◌, List, [], ◌∷◌, ◌++◌, length, map, All, Option, Some, None}
use Rattle.std.specs.List.{range_with_len}
use Rattle.block_disk.specs.Changes.{piece}
use Rattle.seg_table.specs.declared.segment.What.{What}
use Rattle.seg_table.specs.declared.segment.What.TheVariants as what
use Rattle.seg_table.specs.Cells.{Table, cells_of}
use Rattle.flat_image.specs.Sheets.{Cell, Hole, Zero, Filled}
use Rattle.flat_image.specs.RowCells.{sector_at}
use Rattle.layer_commit.specs.declared.source.Source.{Source}

-- the cell that an entry of a table says, where this is the data file
abbrev pub cell_at : List ℕ → Option What → Cell
cell_at stored None = Hole
cell_at stored (Some what.Zero) = Zero
cell_at stored (Some (what.Place place)) = Filled (sector_at stored place)

-- the sheet of a table over n sectors, where this is the data file
unfoldable pub table_sheet : List ℕ → ℕ → Table → List Cell
table_sheet stored n table = map (λ i. cell_at stored (cells_of table i)) (range_with_len 0 n)

-- the bytes that the sources have in a data file, one source after another
abbrev pub copied : List ℕ → List Source → List ℕ
copied stored [] = []
copied stored (source ∷ rest) = piece (512 * source.from) (512 * source.count) stored ++ copied stored rest

-- their sectors
abbrev pub counted : List Source → ℕ
counted [] = 0
counted (source ∷ rest) = source.count + counted rest

-- a source has sectors, and they lie where a disk can be read
pub record IsSource (to : ℕ) (source : Source) : Type 0 where
  pub place : source.to ≡ to
  pub some : 0 < source.count
  pub low : source.from + source.count ≤ 2 ^ 41

-- the sources stand one after another in the new file, from sector `to` on
abbrev pub AreSources : ℕ → List Source → Type 0
AreSources to [] = Unit {0}
AreSources to (source ∷ rest) = IsSource to source × AreSources (to + source.count) rest

-- the data file is long enough for the sources
abbrev pub AreWithin : List ℕ → List Source → Type 0
AreWithin stored sources = All (λ source. 512 * (source.from + source.count) ≤ length stored) sources

-- so many sectors more at the end of the new file, which stand there in the data file, perhaps as a part of the last source
pub record Extends (source : Source) (old new : List Source) : Type 0 where
  pub are : AreSources 8 new
  pub counted : counted new ≡ counted old + source.count
  pub bytes : (stored : List ℕ) → copied stored new ≡ copied stored old ++ piece (512 * source.from) (512 * source.count) stored
  pub within : (stored : List ℕ) → AreWithin stored old → 512 * (source.from + source.count) ≤ length stored → AreWithin stored new

-- a source may stand behind these in the new file
pub record IsBehind (source : Source) (sources : List Source) : Type 0 where
  pub are : AreSources 8 sources
  pub is : IsSource (8 + counted sources) source
  pub few : source.to + source.count ≤ 2 ^ 41
