-- The cells that rows make of a file.
use Rattle.std.specs.Prelude.{◌≡◌, ℕ, ◌+◌, ◌-◌, ◌*◌, ◌/◌, ◌≤◌, ◌&&◌, Bool, false, nat_le, nat_lt, if◌then◌else◌, List, [], ◌∷◌, map, take, drop}
use Rattle.std.specs.List.{range_with_len}
use Rattle.seg_mapping.specs.declared.Row.{Row}
use Rattle.seg_mapping.specs.Rows.{Fits, RowOf}
use Rattle.flat_image.specs.Sheets.{Cell, Hole, Zero, Filled}

-- the sector of a file at that place, in sectors from its start
abbrev pub sector_at : List ℕ → ℕ → List ℕ
sector_at file place = take 512 (drop (512 * place) file)

-- the row speaks of the sector of that number
abbrev pub covers : Row → ℕ → Bool
covers row number = nat_le row.offset number && nat_lt number (row.offset + row.count)

-- what a row says of a sector of which it speaks
abbrev pub cell_by : List ℕ → Row → ℕ → Cell
cell_by file row number = if row.zeroed then Zero else Filled (sector_at file (row.place + (number - row.offset)))

-- what the rows say of the sector of that number: what the first one says that speaks of it
abbrev pub cell_of : List ℕ → List Row → ℕ → Cell
cell_of file [] number = Hole
cell_of file (row ∷ rows) number = if covers row number then cell_by file row number else cell_of file rows number

-- the cells of so many sectors from that one on
abbrev pub cells_from : List ℕ → List Row → ℕ → ℕ → List Cell
cells_from file rows at count = map (cell_of file rows) (range_with_len at count)

-- the sheet of the rows, over n sectors
abbrev pub sheet_of : List ℕ → ℕ → List Row → List Cell
sheet_of file n rows = cells_from file rows 0 n

-- the sectors of a row that is not zeroed lie between the header and the index
pub record IsInData (index_at : ℕ) (row : Row) : Type 0 where
  pub from : row.zeroed ≡ false → 8 ≤ row.place
  pub to : row.zeroed ≡ false → row.place + row.count ≤ index_at / 512

-- a row of a layer of n sectors, where the row before ends at `low`
pub record IsLayerRow (n index_at low : ℕ) (row : Row) : Type 0 where
  pub fits : Fits row
  pub order : low ≤ row.offset
  pub range : row.offset + row.count ≤ n
  pub place : IsInData index_at row

-- the rows of a layer: each begins at the end of the one before or later, ends within the image, and lies in the data
abbrev pub AreLayerRows : ℕ → ℕ → ℕ → List Row → Type 0
AreLayerRows n index_at low [] = Unit {0}
AreLayerRows n index_at low (row ∷ rows) = IsLayerRow n index_at low row × AreLayerRows n index_at (row.offset + row.count) rows

-- row after row, the sixteen bytes from `at` on are the row's
abbrev pub AreSpelled : List ℕ → ℕ → List Row → Type 0
AreSpelled file at [] = Unit {0}
AreSpelled file at (row ∷ rows) = RowOf (take 16 (drop at file)) row × AreSpelled file (at + 16) rows

-- where the last of the rows ends, or else `low`
abbrev pub end_of : ℕ → List Row → ℕ
end_of low [] = low
end_of low (row ∷ rows) = end_of (row.offset + row.count) rows
