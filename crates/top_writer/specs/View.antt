-- The fields of a top in memory, without what they have in reserve.
use Rattle.std.specs.Prelude.{ℕ, List, Option, Some, None}
use Rattle.gate_mark.specs.declared.mark.Mark.{Mark}
use Rattle.gate_mark.specs.Mark.{sequence_in}
use Rattle.seg_table.specs.declared.segment.Segment.{Segment}
use Rattle.seg_table.specs.declared.segment.What.{What}
use Rattle.seg_table.specs.declared.segment.What.TheVariants as what
use Rattle.seg_table.specs.Cells.{Table}
use Rattle.flat_image.specs.Sheets.{Cell, Hole, Zero, Filled}
use Rattle.flat_image.specs.RowCells.{sector_at}
use Rattle.top_writer.specs.declared.top.Top.{Top}

pub record TopView : Type 0 where
  pub epoch : ℕ
  -- the sectors of the image
  pub sectors : ℕ
  pub mark : Mark
  -- the segments of the table
  pub segments : List Segment
  -- the rows that are on the disk
  pub synced : ℕ
  -- all rows, and the sectors of the data
  pub rows : ℕ
  pub filled : ℕ
  -- the bytes of the rows that are not on the disk yet
  pub waiting : List ℕ

abbrev pub view_of : Top → TopView
view_of top = record {
  epoch = top.epoch;
  sectors = top.sectors;
  mark = top.mark;
  segments = top.table.segments;
  synced = top.synced;
  rows = top.rows;
  filled = top.filled;
  waiting = top.waiting.items;
}

abbrev pub epoch_of : Top → ℕ
epoch_of top = top.epoch

abbrev pub sectors_of : Top → ℕ
sectors_of top = top.sectors

-- the sequence of its mark
abbrev pub sequence_of : Top → ℕ
sequence_of top = sequence_in top.mark

abbrev pub rows_used : Top → ℕ
rows_used top = top.rows

abbrev pub sectors_used : Top → ℕ
sectors_used top = top.filled

abbrev pub table_of : Top → Table
table_of top = top.table

-- the cell that an entry of a table says, where this is the data file
abbrev pub cell_at : List ℕ → Option What → Cell
cell_at file None = Hole
cell_at file (Some what.Zero) = Zero
cell_at file (Some (what.Place place)) = Filled (sector_at file place)
