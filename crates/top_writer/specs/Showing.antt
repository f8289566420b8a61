-- What three files show of a top.
use Rattle.std.specs.Prelude.{◌≡◌, ℕ, ◌+◌, ◌*◌, ◌≤◌, List, length, All, Contains, Option}
use Rattle.seg_mapping.specs.declared.Row.{Row}
use Rattle.lsmt_header.specs.declared.head.Kind.TheVariants.{TopBytes, TopRows}
use Rattle.block_disk.specs.DiskState.{Files}
use Rattle.gate_mark.specs.MarkFile.{Shows}
use Rattle.flat_image.specs.Left.{Stand}
use Rattle.flat_image.specs.History.{HasRoom}
use Rattle.flat_image.specs.RowCells.{AreSpelled}
use Rattle.top_writer.specs.Files.{Stored, stored_in, HasBlock, HasSectors, parent_said, IsParent, rows_said, sectors_said, HeadsAsked}
use Rattle.top_writer.specs.Rows.{IsTopRow, top_sheet}

-- the data file and the index file have the heads of a top of an image of n sectors
pub record HasHeads (n : ℕ) (asked : HeadsAsked) (bytes index : List ℕ) : Type 0 where
  pub bytes_head : HasBlock TopBytes bytes
  pub index_head : HasBlock TopRows index
  pub bytes_size : HasSectors asked.exact n bytes
  pub index_size : HasSectors asked.exact n index
  pub parent_is : IsParent asked.parent (parent_said bytes)

-- the body of a mark counts so many rows and sectors, no more than a top may have
pub record Counts (body : List ℕ) (rows filled : ℕ) : Type 0 where
  pub rows_are : rows_said body ≡ rows
  pub sectors_are : sectors_said body ≡ filled
  pub room : HasRoom rows filled

-- The files show the top: their mark counts its rows and its sectors, both files have so many, each row is as it has to
-- be, and the rows painted in order are its cells. What stands behind them is not looked at.
pub record ShowsTop (n : ℕ) (asked : HeadsAsked) (s : Stand) (stored : Stored) : Type 0 where
  pub sequence : ℕ
  pub body : List ℕ
  pub rows : List Row
  pub heads : HasHeads n asked stored.bytes stored.index
  pub mark : Shows sequence body stored.mark
  pub counts : Counts body s.rows s.filled
  pub index_long : 4096 + 16 * s.rows ≤ length stored.index
  pub bytes_long : 4096 + 512 * s.filled ≤ length stored.bytes
  pub number : length rows ≡ s.rows
  pub spelled : AreSpelled stored.index 4096 rows
  pub sound : All (IsTopRow n s.filled) rows
  pub cells : s.cells ≡ top_sheet stored.bytes n rows

-- the files of the epoch show one of these tops
pub record ShowsOne (epoch n : ℕ) (asked : HeadsAsked) (may : List Stand) (files : Files) : Type 0 where
  pub stand : Stand
  pub among : Contains may stand
  pub shows : ShowsTop n asked stand (stored_in epoch files)
