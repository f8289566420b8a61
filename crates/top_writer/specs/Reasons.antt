-- Why three files are no top: the first of these, in the order in which they are looked at.
use Rattle.std.specs.Prelude.{◌≡◌, ◌≢◌, ℕ, ◌+◌, ◌*◌, ◌^◌, ◌<◌, ◌≤◌, ◌⊎◌, List, length, take, drop, All, None}
use Rattle.seg_mapping.specs.declared.Row.{Row}
use Rattle.seg_mapping.specs.Rows.{RowOf, count_in}
use Rattle.lsmt_header.specs.declared.head.Kind.TheVariants.{TopBytes, TopRows}
use Rattle.lsmt_header.specs.Blocks.{raw_head}
use Rattle.lsmt_header.specs.Faults.{IsFault}
use Rattle.gate_mark.specs.MarkFile.{mark_of, Shows}
use Rattle.flat_image.specs.History.{HasRoom, IsOver}
use Rattle.flat_image.specs.RowCells.{AreSpelled}
use Rattle.top_writer.specs.declared.fault.TopReason.{TopReason}
use Rattle.top_writer.specs.declared.fault.TopReason.TheVariants as why
use Rattle.top_writer.specs.Files.{Stored, HeadsAsked, HasBlock, IsSizeFor, HasSectors, size_said, parent_said, IsParent, rows_said, sectors_said}
use Rattle.top_writer.specs.Rows.{IsStored, IsTopRow}

-- what passes the first test, the first two, and so on
abbrev pub AreLong : Stored → Type 0
AreLong t = (4096 ≤ length t.bytes) × (4096 ≤ length t.index)

abbrev pub HasBytes : Stored → Type 0
HasBytes t = AreLong t × HasBlock TopBytes t.bytes

abbrev pub HasBlocks : Stored → Type 0
HasBlocks t = HasBytes t × HasBlock TopRows t.index

abbrev pub HasSizes : ℕ → HeadsAsked → Stored → Type 0
HasSizes n asked t = HasBlocks t × HasSectors asked.exact n t.bytes × HasSectors asked.exact n t.index

abbrev pub HasParent : ℕ → HeadsAsked → Stored → Type 0
HasParent n asked t = HasSizes n asked t × IsParent asked.parent (parent_said t.bytes)

-- its mark holds this body, and is not worn
pub record HasMark (n : ℕ) (asked : HeadsAsked) (t : Stored) (body : List ℕ) : Type 0 where
  pub sequence : ℕ
  pub heads : HasParent n asked t
  pub mark : Shows sequence body t.mark
  pub low : sequence ≤ 2 ^ 61

-- the mark counts so many rows and sectors, no more than a top may have
pub record HasCounts (n : ℕ) (asked : HeadsAsked) (t : Stored) (rows filled : ℕ) : Type 0 where
  pub body : List ℕ
  pub mark : HasMark n asked t body
  pub rows_are : rows_said body ≡ rows
  pub sectors_are : sectors_said body ≡ filled
  pub room : HasRoom rows filled

-- both files have so many
pub record IsWhole (n : ℕ) (asked : HeadsAsked) (t : Stored) (rows filled : ℕ) : Type 0 where
  pub counts : HasCounts n asked t rows filled
  pub index_long : 4096 + 16 * rows ≤ length t.index
  pub bytes_long : 4096 + 512 * filled ≤ length t.bytes

-- the fault of sixteen bytes as the row of that number
abbrev pub IsRowReason : ℕ → ℕ → List ℕ → ℕ → TopReason → Type 0
IsRowReason n filled bytes number (why.Row at fault) = (at ≡ number) × (count_in bytes ≡ 0)
IsRowReason n filled bytes number (why.RowRange at) = (at ≡ number) × ((row : Row) × RowOf bytes row × (n < row.offset + row.count))
IsRowReason n filled bytes number (why.RowPlace at) = (at ≡ number) × ((row : Row) × RowOf bytes row × (row.offset + row.count ≤ n) × ¬ IsStored filled row)
IsRowReason n filled bytes number why.HeadShort = ⊥
IsRowReason n filled bytes number (why.Bytes fault) = ⊥
IsRowReason n filled bytes number (why.Rows fault) = ⊥
IsRowReason n filled bytes number (why.HeadSize size) = ⊥
IsRowReason n filled bytes number why.ParentDiffers = ⊥
IsRowReason n filled bytes number why.NoMark = ⊥
IsRowReason n filled bytes number (why.MarkWorn sequence) = ⊥
IsRowReason n filled bytes number (why.MarkBad rows sectors) = ⊥
IsRowReason n filled bytes number why.ShortRows = ⊥
IsRowReason n filled bytes number why.ShortBytes = ⊥

-- the rows are as they have to be up to one of those counted, which has this fault
pub record StopsAtRow (n : ℕ) (asked : HeadsAsked) (t : Stored) (reason : TopReason) : Type 0 where
  pub count : ℕ
  pub filled : ℕ
  pub before : List Row
  pub whole : IsWhole n asked t count filled
  pub more : length before < count
  pub spelled : AreSpelled t.index 4096 before
  pub sound : All (IsTopRow n filled) before
  pub here : IsRowReason n filled (take 16 (drop (4096 + 16 * length before) t.index)) (length before) reason

-- the reason is the first one for which the files are no top of an image of n sectors, whose heads have what is asked of them
abbrev pub IsReason : ℕ → HeadsAsked → Stored → TopReason → Type 0
IsReason n asked t why.HeadShort = ¬ AreLong t
IsReason n asked t (why.Bytes fault) = AreLong t × IsFault TopBytes (raw_head (take 4096 t.bytes)) fault
IsReason n asked t (why.Rows fault) = HasBytes t × IsFault TopRows (raw_head (take 4096 t.index)) fault
IsReason n asked t (why.HeadSize size) = HasBlocks t × ¬ IsSizeFor asked.exact n size × ((size ≡ size_said t.bytes) ⊎ (HasSectors asked.exact n t.bytes × (size ≡ size_said t.index)))
IsReason n asked t why.ParentDiffers = HasSizes n asked t × ¬ IsParent asked.parent (parent_said t.bytes)
IsReason n asked t why.NoMark = HasParent n asked t × (mark_of t.mark ≡ None)
IsReason n asked t (why.MarkWorn sequence) = HasParent n asked t × ((body : List ℕ) × Shows sequence body t.mark) × (2 ^ 61 < sequence)
IsReason n asked t (why.MarkBad rows sectors) = (body : List ℕ) × HasMark n asked t body × (rows ≡ rows_said body) × (sectors ≡ sectors_said body) × IsOver rows sectors
IsReason n asked t why.ShortRows = (rows : ℕ) × (filled : ℕ) × HasCounts n asked t rows filled × (length t.index < 4096 + 16 * rows)
IsReason n asked t why.ShortBytes = (rows : ℕ) × (filled : ℕ) × HasCounts n asked t rows filled × (4096 + 16 * rows ≤ length t.index) × (length t.bytes < 4096 + 512 * filled)
IsReason n asked t (why.Row number fault) = StopsAtRow n asked t (why.Row number fault)
IsReason n asked t (why.RowRange number) = StopsAtRow n asked t (why.RowRange number)
IsReason n asked t (why.RowPlace number) = StopsAtRow n asked t (why.RowPlace number)
