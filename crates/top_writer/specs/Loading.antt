-- What a load has found, step by step.
use Rattle.std.specs.Prelude.{◌≡◌, ℕ, ◌+◌, ◌-◌, ◌*◌, ◌^◌, ◌<◌, ◌≤◌, ◌⊎◌, if◌then◌else◌, List, [], ◌∷◌, length, take, drop, reverse, All, Option, Some, None, Bool, IsTrue, ⊤}
use Rattle.std.specs.Option.{option_or}
use Rattle.block_disk.specs.DiskState.{DiskState}
use Rattle.gate_mark.specs.declared.mark.Mark.{Mark}
use Rattle.gate_mark.specs.Mark.{file_of, sequence_in, body_in, IsKept, MayHold}
use Rattle.gate_mark.specs.MarkFile.{Shows}
use Rattle.seg_mapping.specs.declared.Row.{Row}
use Rattle.seg_table.specs.declared.segment.Segment.{Segment}
use Rattle.seg_table.specs.declared.segment.What.{What}
use Rattle.seg_table.specs.declared.segment.What.TheVariants as what
use Rattle.seg_table.specs.Cells.{cell_in}
use Rattle.flat_image.specs.RowCells.{AreSpelled, covers}
use Rattle.top_writer.specs.declared.fault.TopFault.{TopFault}
use Rattle.top_writer.specs.declared.fault.TopFault.TheVariants.{Memory, Failed, NoTop}
use Rattle.top_writer.specs.declared.fault.TopReason.{TopReason}
use Rattle.top_writer.specs.declared.fault.TopReason.TheVariants as why
use Rattle.top_writer.specs.Files.{Stored, data_file, index_file, mark_file, HeadsAsked}
use Rattle.top_writer.specs.Fitting.{IsData}
use Rattle.top_writer.specs.Reasons.{AreLong, IsRowReason, IsReason, IsWhole}
use Rattle.top_writer.specs.Rows.{IsTopRow}
use Rattle.top_writer.specs.Showing.{Counts}

-- why a load was refused; of the disk's fault and want of memory nothing is said
abbrev pub IsRefused : ℕ → HeadsAsked → Stored → TopFault → Type 0
IsRefused n asked t Memory = ⊤
IsRefused n asked t Failed = ⊤
IsRefused n asked t (NoTop reason) = IsReason n asked t reason

-- the disk failed, or the file is too short for a first block
abbrev pub IsShort : Bool → List ℕ → TopFault → Type 0
IsShort tells file fault = (fault ≡ Failed) ⊎ ((fault ≡ NoTop why.HeadShort) × (IsTrue tells → length file < 4096))

-- the length of a file, and its first block
pub record IsFront (file : List ℕ) (len : ℕ) (block : List ℕ) : Type 0 where
  pub len_is : len ≡ length file
  pub long : 4096 ≤ length file
  pub block_is : block ≡ take 4096 file

-- the first blocks of the data file and of the index file
pub record AreFronts (t : Stored) (bytes index : List ℕ) : Type 0 where
  pub long : AreLong t
  pub bytes_are : bytes ≡ take 4096 t.bytes
  pub index_are : index ≡ take 4096 t.index

-- what the files say of what was found, where the disk tells
pub record IsTold (n : ℕ) (asked : HeadsAsked) (t : Stored) (mark : Mark) (block : List ℕ) (rows filled : ℕ) : Type 0 where
  pub front : block ≡ take 4096 t.bytes
  pub shows : Shows (sequence_in mark) (body_in mark) t.mark
  pub whole : IsWhole n asked t rows filled

-- what was found before the rows are read: the head of the data, a mark, and what it counts
pub record IsFound (tells : Bool) (now : DiskState) (epoch n : ℕ) (asked : HeadsAsked) (t : Stored) (mark : Mark) (rows filled : ℕ) : Type 0 where
  pub file_is : file_of mark ≡ mark_file epoch
  pub low : sequence_in mark ≤ 2 ^ 61
  pub kept : IsKept now mark
  pub bodies : (body : List ℕ) → MayHold mark body → body ≡ body_in mark
  pub counts : Counts (body_in mark) rows filled
  pub block : List ℕ
  pub block_long : length block ≡ 4096
  pub head : IsData n asked block
  pub bytes_left : (c : List ℕ) → now.may_leave (data_file epoch) c → c ≡ t.bytes
  pub index_left : (c : List ℕ) → now.may_leave (index_file epoch) c → c ≡ t.index
  pub told : IsTrue tells → IsTold n asked t mark block rows filled

-- what a row says of a sector of which it speaks, as an entry of a table
abbrev pub what_by : Row → ℕ → What
what_by row sector = if row.zeroed then what.Zero else what.Place (row.place + (sector - row.offset))

-- what the rows say of a sector: what the first one says that speaks of it
abbrev pub entry_of : List Row → ℕ → Option What
entry_of [] sector = None
entry_of (row ∷ rows) sector = if covers row sector then Some (what_by row sector) else entry_of rows sector

-- so many rows, which the piece spells, were put into the table one after another
pub record Puts (n filled : ℕ) (piece : List ℕ) (old new : List Segment) (count : ℕ) : Type 0 where
  pub rows : List Row
  pub number : length rows ≡ count
  pub spelled : AreSpelled piece 0 rows
  pub sound : All (IsTopRow n filled) rows
  pub cells : (sector : ℕ) → cell_in new sector ≡ option_or (entry_of (reverse rows) sector) (cell_in old sector)

-- some first rows of a part of a file are as they have to be, and the next one, of `count`, has this fault; the first one has that number
pub record Stops (n filled : ℕ) (file : List ℕ) (at number count : ℕ) (reason : TopReason) : Type 0 where
  pub before : List Row
  pub more : length before < count
  pub spelled : AreSpelled file at before
  pub sound : All (IsTopRow n filled) before
  pub here : IsRowReason n filled (take 16 (drop (at + 16 * length before) file)) (number + length before) reason

-- why reading the rows stopped; of the disk's fault and want of memory nothing is said
abbrev pub StopsReading : ℕ → ℕ → List ℕ → ℕ → TopFault → Type 0
StopsReading n filled index count Memory = ⊤
StopsReading n filled index count Failed = ⊤
StopsReading n filled index count (NoTop reason) = Stops n filled index 4096 0 count reason

-- why putting the rows of a piece, of which the first has that number, stopped; of want of memory nothing is said
abbrev pub StopsPutting : ℕ → ℕ → List ℕ → ℕ → ℕ → TopFault → Type 0
StopsPutting n filled piece number count Memory = ⊤
StopsPutting n filled piece number count Failed = ⊥
StopsPutting n filled piece number count (NoTop reason) = Stops n filled piece 0 number count reason

-- so many rows of the index are in the table
pub record AreLoaded (tells : Bool) (n filled : ℕ) (index : List ℕ) (count : ℕ) (segments : List Segment) : Type 0 where
  pub rows : List Row
  pub number : length rows ≡ count
  pub sound : All (IsTopRow n filled) rows
  pub cells : (sector : ℕ) → cell_in segments sector ≡ entry_of (reverse rows) sector
  pub spelled : IsTrue tells → AreSpelled index 4096 rows
