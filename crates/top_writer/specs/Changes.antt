-- What a write and a zero change of a top in memory.
use Rattle.std.specs.Prelude.{◌≡◌, ℕ, ◌+◌, ◌*◌, List, ◌++◌, length}
use Rattle.sector_extent.specs.declared.extent.Extent.{Extent}
use Rattle.sector_extent.specs.Rows.{rows_for}
use Rattle.seg_table.specs.declared.segment.What.{What}
use Rattle.seg_table.specs.declared.segment.What.TheVariants as what
use Rattle.seg_table.specs.Cells.{cell_in, Sets}
use Rattle.flat_image.specs.History.{HasRoom}
use Rattle.flat_image.specs.RowCells.{AreSpelled}
use Rattle.top_writer.specs.Rows.{rows_of}
use Rattle.top_writer.specs.View.{TopView}

-- the table says of an extent that it has this, rows that say so wait, and nothing else is changed
pub record Notes (v : TopView) (extent : Extent) (w : What) (new : TopView) : Type 0 where
  pub epoch : new.epoch ≡ v.epoch
  pub sectors : new.sectors ≡ v.sectors
  pub mark : new.mark ≡ v.mark
  pub synced : new.synced ≡ v.synced
  pub filled : new.filled ≡ v.filled
  pub rows : new.rows ≡ v.rows + rows_for extent.count
  pub table : Sets (cell_in v.segments) (cell_in new.segments) (record { extent = extent; what = w })
  pub added : List ℕ
  pub waiting : new.waiting ≡ v.waiting ++ added
  pub spelled : AreSpelled added 0 (rows_of extent.at extent.count w)
  pub size : length added ≡ 16 * rows_for extent.count

-- the top in memory of an image that got so many sectors, and nothing else is changed
abbrev pub IsGrown : TopView → ℕ → TopView → Type 0
IsGrown v sectors new = new ≡ record v { sectors = sectors }

-- the top in memory after a zero of the extent
pub record IsZeroed (v : TopView) (extent : Extent) (new : TopView) : Type 0 where
  pub notes : Notes v extent what.Zero new
  pub room : HasRoom new.rows new.filled
