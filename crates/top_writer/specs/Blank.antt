-- What a table says where nothing is known of the data file.
use Rattle.std.specs.Prelude.{ℕ, List, map, Option, Some, None}
use Rattle.std.specs.List.{range_with_len}
use Rattle.seg_table.specs.declared.segment.Segment.{Segment}
use Rattle.seg_table.specs.declared.segment.What.{What}
use Rattle.seg_table.specs.declared.segment.What.TheVariants as what
use Rattle.seg_table.specs.Cells.{cell_in}
use Rattle.flat_image.specs.Sheets.{Cell, Hole, Zero, Filled, zero_sector}

-- the cell that an entry of a table says where nothing is known of its sector
abbrev pub blank_cell : Option What → Cell
blank_cell None = Hole
blank_cell (Some what.Zero) = Zero
blank_cell (Some (what.Place place)) = Filled zero_sector

-- the sheet of n sectors that a table says so
abbrev pub blank_sheet : ℕ → List Segment → List Cell
blank_sheet n table = map (λ i. blank_cell (cell_in table i)) (range_with_len 0 n)
