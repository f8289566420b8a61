-- What holds of a top in memory and of its files, from call to call.
use Rattle.std.specs.Prelude.{◌≡◌, ℕ, ◌+◌, ◌*◌, ◌<◌, ◌≤◌, List, length, take, drop, reverse, All, Contains, Bool, IsTrue, Option, Some, None}
use Rattle.block_disk.specs.DiskState.{DiskState}
use Rattle.block_disk.specs.Claims.{Run}
use Rattle.gate_mark.specs.Mark.{file_of, body_in, IsKept, IsSettled, MayHold}
use Rattle.seg_mapping.specs.declared.Row.{Row}
use Rattle.seg_table.specs.declared.segment.Segment.{Segment}
use Rattle.seg_table.specs.declared.segment.What.TheVariants as what
use Rattle.seg_table.specs.Cells.{cell_in}
use Rattle.lsmt_header.specs.declared.head.Kind.TheVariants.{TopBytes, TopRows}
use Rattle.flat_image.specs.History.{HasRoom}
use Rattle.flat_image.specs.Left.{Stand}
use Rattle.flat_image.specs.RowCells.{AreSpelled, cell_of}
use Rattle.top_writer.specs.declared.top.Top.{Top}
use Rattle.top_writer.specs.Files.{data_file, index_file, mark_file, TopFiles, HeadsAsked, HasBlock, HasSectors, parent_said, IsParent, rows_said, sectors_said}
use Rattle.top_writer.specs.Rows.{IsTopRow, top_sheet}
use Rattle.top_writer.specs.Showing.{Counts, ShowsOne}
use Rattle.top_writer.specs.Stands.{this_too}
use Rattle.top_writer.specs.View.{TopView, view_of, epoch_of, sectors_of, sequence_of, cell_at}

-- the file begins with the first so many bytes of that one
pub record HasFront (size : ℕ) (whole file : List ℕ) : Type 0 where
  pub long : size ≤ length file
  pub same : take size file ≡ take size whole

-- The table has the cells that the rows make of the data file. What it has lies within the image, and its places in the
-- data.
pub record IsTableOf (n filled : ℕ) (file : List ℕ) (rows : List Row) (segments : List Segment) : Type 0 where
  pub same : (i : ℕ) → i < n → cell_at file (cell_in segments i) ≡ cell_of file (reverse rows) i
  pub within : (i : ℕ) → n ≤ i → cell_in segments i ≡ None
  pub from : (i place : ℕ) → cell_in segments i ≡ Some (what.Place place) → 8 ≤ place
  pub to : (i place : ℕ) → cell_in segments i ≡ Some (what.Place place) → place < 8 + filled

-- the head of a data file, of an index file
pub record IsData (n : ℕ) (asked : HeadsAsked) (file : List ℕ) : Type 0 where
  pub head : HasBlock TopBytes file
  pub size : HasSectors asked.exact n file
  pub parent_is : IsParent asked.parent (parent_said file)

pub record IsIndex (n : ℕ) (asked : HeadsAsked) (file : List ℕ) (rows : List Row) : Type 0 where
  pub head : HasBlock TopRows file
  pub size : HasSectors asked.exact n file
  pub long : 4096 + 16 * length rows ≤ length file
  pub spelled : AreSpelled file 4096 rows

-- All that was ever written for a top: its data file up to the last sector, and its rows, those included that are not on
-- the disk yet. It is what the top has in memory, and what it is from above.
pub record Holds (n : ℕ) (asked : HeadsAsked) (v : TopView) (s : Stand) (file : List ℕ) (rows : List Row) : Type 0 where
  pub epoch : v.epoch ≤ 255
  pub sectors : v.sectors ≡ n
  pub head : IsData n asked file
  pub long : length file ≡ 4096 + 512 * v.filled
  pub number : length rows ≡ v.rows
  pub sound : All (IsTopRow n v.filled) rows
  pub room : HasRoom v.rows v.filled
  pub rows_are : s.rows ≡ v.rows
  pub filled_are : s.filled ≡ v.filled
  pub cells : s.cells ≡ top_sheet file n rows
  pub table : IsTableOf n v.filled file rows v.segments
  pub waiting : AreSpelled v.waiting 0 (drop v.synced rows)
  pub waiting_size : 16 * v.synced + length v.waiting ≡ 16 * v.rows

-- the top that the body of a mark counts, of these rows and this data
pub record IsCounted (n : ℕ) (file : List ℕ) (rows : List Row) (synced synced_sectors : ℕ) (body : List ℕ) (s : Stand) : Type 0 where
  pub counts : Counts body s.rows s.filled
  pub rows_synced : s.rows ≤ synced
  pub sectors_synced : s.filled ≤ synced_sectors
  pub sound : All (IsTopRow n s.filled) (take s.rows rows)
  pub cells : s.cells ≡ top_sheet file n (take s.rows rows)

-- What a crash now may leave of the three files: the synced sectors and rows, and a mark that counts no more than these,
-- and so shows one of those tops. What a read gives of the data file is all that was written.
pub record Lasts (tells : Bool) (now : DiskState) (n : ℕ) (asked : HeadsAsked) (v : TopView) (file : List ℕ) (rows : List Row) (may : List Stand) : Type 0 where
  pub synced_sectors : ℕ
  pub within : synced_sectors ≤ v.filled
  pub mark_is : file_of v.mark ≡ mark_file v.epoch
  pub mark : IsKept now v.mark
  pub bytes_left : (c : List ℕ) → now.may_leave (data_file v.epoch) c → HasFront (4096 + 512 * synced_sectors) file c
  pub index_left : (c : List ℕ) → now.may_leave (index_file v.epoch) c → IsIndex n asked c (take v.synced rows)
  pub seen : IsTrue tells → HasFront (4096 + 512 * v.filled) file (now.seen (data_file v.epoch))
  pub bodies : (body : List ℕ) → MayHold v.mark body → (s : Stand) × Contains may s × IsCounted n file rows v.synced synced_sectors body s

-- the top in memory is that top from above, of an image of n sectors; a crash now may leave files that show one of those
pub record ViewFits (tells : Bool) (now : DiskState) (n : ℕ) (asked : HeadsAsked) (v : TopView) (s : Stand) (may : List Stand) : Type 0 where
  pub file : List ℕ
  pub rows : List Row
  pub holds : Holds n asked v s file rows
  pub lasts : Lasts tells now n asked v file rows may

-- the same of a top of which all rows and sectors are on the disk, but perhaps not counted by its mark
pub record ViewStored (tells : Bool) (now : DiskState) (n : ℕ) (asked : HeadsAsked) (v : TopView) (s : Stand) (may : List Stand) : Type 0 where
  pub file : List ℕ
  pub rows : List Row
  pub holds : Holds n asked v s file rows
  pub lasts : Lasts tells now n asked v file rows may
  pub all_rows : v.synced ≡ v.rows
  pub all_sectors : lasts.synced_sectors ≡ v.filled

abbrev pub TopFits : Bool → DiskState → ℕ → HeadsAsked → Top → Stand → List Stand → Type 0
TopFits tells now n asked top s may = ViewFits tells now n asked (view_of top) s may

-- the top was made for this disk, and all that was done to it and its files since was done by its calls
pub record IsFitted (tells : Bool) (now : DiskState) (top : Top) : Type 0 where
  pub n : ℕ
  pub asked : HeadsAsked
  pub stand : Stand
  pub may : List Stand
  pub fits : TopFits tells now n asked top stand may

-- nothing is new: the mark counts all rows and sectors of the top, and a crash leaves no other body of it
pub record IsAllCounted (v : TopView) : Type 0 where
  pub settled : IsSettled v.mark
  pub rows_are : rows_said (body_in v.mark) ≡ v.rows
  pub sectors_are : sectors_said (body_in v.mark) ≡ v.filled

abbrev pub IsFlushed : Top → Type 0
IsFlushed top = IsAllCounted (view_of top)

-- A call on a top and its files: what the top becomes, and what a crash may leave of it then. At each moment of the call
-- a crash leaves the top as it was when the call began, or what it might have left then.
pub record TopGoes (tells : Bool) (old new : DiskState) (p q : Top) (becomes : Stand → Stand) (leaves : Stand → List Stand → List Stand) : Type 0 where
  pub epoch : epoch_of q ≡ epoch_of p
  pub sectors : sectors_of q ≡ sectors_of p
  pub sequence : sequence_of q ≤ sequence_of p + 1
  pub fits : (n : ℕ) (asked : HeadsAsked) (s : Stand) (may : List Stand) → TopFits tells old n asked p s may
      → TopFits tells new n asked q (becomes s) (leaves s may)
  pub any_moment : (n : ℕ) (asked : HeadsAsked) (s : Stand) (may : List Stand) → TopFits tells old n asked p s may
      → Run (TopFiles (epoch_of p)) old new (ShowsOne (epoch_of p) n asked (this_too s may))
