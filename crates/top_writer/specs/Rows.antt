-- The rows of a top, and the cells that they make of its data file.
use Rattle.std.specs.Prelude.{◌≡◌, ℕ, zero, suc, ◌+◌, ◌-◌, ◌*◌, ◌≤◌, min, true, false, List, [], ◌∷◌, reverse}
use Rattle.sector_extent.specs.Rows.{rows_for}
use Rattle.seg_mapping.specs.declared.Row.{Row}
use Rattle.seg_table.specs.declared.segment.What.{What}
use Rattle.seg_table.specs.declared.segment.What.TheVariants as what
use Rattle.flat_image.specs.Sheets.{Cell}
use Rattle.flat_image.specs.RowCells.{sheet_of}

-- a row that is not zeroed lies in the first so many sectors of the data, which begin at sector 8
pub record IsStored (filled : ℕ) (row : Row) : Type 0 where
  pub from : row.zeroed ≡ false → 8 ≤ row.place
  pub to : row.zeroed ≡ false → row.place + row.count ≤ 8 + filled

-- a row ends within an image of n sectors, and its own sectors are stored
pub record IsTopRow (n filled : ℕ) (row : Row) : Type 0 where
  pub range : row.offset + row.count ≤ n
  pub place : IsStored filled row

-- the sheet of rows in order of writing: a later row hides an earlier one
abbrev pub top_sheet : List ℕ → ℕ → List Row → List Cell
top_sheet file n rows = sheet_of file n (reverse rows)

-- the row of that number of so many sectors from `at` on, which have this
abbrev pub row_number : ℕ → ℕ → What → ℕ → Row
row_number at count (what.Place place) number = record
    { offset = at + 16383 * number; count = min 16383 (count - 16383 * number); place = place + 16383 * number; zeroed = false; tag = 0 }
row_number at count what.Zero number = record
    { offset = at + 16383 * number; count = min 16383 (count - 16383 * number); place = 0; zeroed = true; tag = 0 }

-- the first so many of these rows, the last one first
abbrev pub newest_rows : ℕ → ℕ → What → ℕ → List Row
newest_rows at count w zero = []
newest_rows at count w (suc number) = row_number at count w number ∷ newest_rows at count w number

-- all of them in order
abbrev pub rows_of : ℕ → ℕ → What → List Row
rows_of at count w = reverse (newest_rows at count w (rows_for count))
