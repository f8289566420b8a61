-- What a top that fits is from above.
use Rattle.std.proofs.Common.{◌≡◌, ℕ, ◌+◌, ◌*◌, ◌<◌, ◌≤◌, List, ◌∙◌, map, sym, arith, reverse, Option, Some, None, Bool, IsTrue}
use Rattle.std.specs.List.{range_with_len}
use Rattle.block_disk.specs.DiskState.{DiskState}
use Rattle.seg_table.specs.declared.segment.What.TheVariants as what
use Rattle.seg_table.specs.Cells.{cells_of}
use Rattle.flat_image.specs.History.{HasRoom}
use Rattle.flat_image.specs.RowCells.{cell_of}
use Rattle.flat_image.specs.Left.{Stand}
use Rattle.top_writer.specs.declared.top.Top.{Top}
use Rattle.top_writer.specs.Files.{data_file, HeadsAsked}
use Rattle.top_writer.specs.Fitting.{HasFront, TopFits}
use Rattle.top_writer.specs.View.{epoch_of, sectors_of, rows_used, sectors_used, table_of, cell_at}
use Rattle.top_writer.proofs.ReadSheet.{map_same}

-- its numbers
pub record IsUsed (n : ℕ) (top : Top) (s : Stand) : Type 0 where
  pub epoch : epoch_of top ≤ 255
  pub sectors : sectors_of top ≡ n
  pub rows : s.rows ≡ rows_used top
  pub filled : s.filled ≡ sectors_used top
  pub room : HasRoom (rows_used top) (sectors_used top)

pub top_used : (tells : Bool) (now : DiskState) (n : ℕ) (asked : HeadsAsked) (top : Top) (s : Stand) (may : List Stand) → TopFits tells now n asked top s may → IsUsed n top s
top_used tells now n asked top s may fits = record {
  epoch = fits.holds.epoch;
  sectors = fits.holds.sectors;
  rows = fits.holds.rows_are;
  filled = fits.holds.filled_are;
  room = fits.holds.room;
}

-- Its table: cell by cell what it says of a data file is the top's sheet, the file reads so where the disk tells, and each
-- place is one of its sectors.
pub record IsTabled (tells : Bool) (now : DiskState) (n : ℕ) (top : Top) (s : Stand) : Type 0 where
  pub file : List ℕ
  pub cells : s.cells ≡ map (λ i. cell_at file (cells_of (table_of top) i)) (range_with_len 0 n)
  pub seen : IsTrue tells → HasFront (4096 + 512 * sectors_used top) file (now.seen (data_file (epoch_of top)))
  pub within : (i : ℕ) → n ≤ i → cells_of (table_of top) i ≡ None
  pub from : (i place : ℕ) → cells_of (table_of top) i ≡ Some (what.Place place) → 8 ≤ place
  pub to : (i place : ℕ) → cells_of (table_of top) i ≡ Some (what.Place place) → place < 8 + sectors_used top

pub top_table : (tells : Bool) (now : DiskState) (n : ℕ) (asked : HeadsAsked) (top : Top) (s : Stand) (may : List Stand) → TopFits tells now n asked top s may → IsTabled tells now n top s
top_table tells now n asked top s may fits = record {
  file = fits.file;
  cells = fits.holds.cells ∙ sym (map_same (λ i. cell_at fits.file (cells_of (table_of top) i)) (cell_of fits.file (reverse fits.rows)) 0 n (λ i low high. fits.holds.table.same i (omega (arith, high))));
  seen = fits.lasts.seen;
  within = fits.holds.table.within;
  from = fits.holds.table.from;
  to = fits.holds.table.to;
}
