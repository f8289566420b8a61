-- The fault of a file that is no layer, by the order in which it is read.
use Rattle.std.specs.Prelude.{◌≡◌, ◌≢◌, ℕ, ◌+◌, ◌-◌, ◌*◌, ◌^◌, ◌<◌, ◌≤◌, List, length, take, drop, slice_set, ⊤}
use Rattle.seg_mapping.specs.declared.Row.{Row}
use Rattle.seg_mapping.specs.Rows.{RowOf, count_in}
use Rattle.lsmt_header.specs.declared.head.Head.{Head}
use Rattle.lsmt_header.specs.declared.head.Kind.TheVariants.{SealedHead}
use Rattle.lsmt_header.specs.Blocks.{BlockOf, raw_head}
use Rattle.lsmt_header.specs.Faults.{IsFault}
use Rattle.flat_image.specs.RowCells.{IsInData, AreLayerRows, AreSpelled, end_of}
use Rattle.flat_image.specs.LayerFiles.{IsFramed, IsIndexPlace}
use Rattle.sealed_layer.specs.declared.fault.LayerFault.{LayerFault}
use Rattle.sealed_layer.specs.declared.fault.LayerFault.TheVariants as f

-- the file is long enough and has this head
pub record HasHead (file : List ℕ) (head : Head) : Type 0 where
  pub long : 8192 ≤ length file
  pub front : BlockOf (take 4096 file) head
  pub kind : head.kind ≡ SealedHead

-- the block is no head's, with this fault
abbrev pub IsNoHead : List ℕ → LayerFault → Type 0
IsNoHead block (f.Head fault) = IsFault SealedHead (raw_head block) fault
IsNoHead block f.Failed = ⊥
IsNoHead block f.Short = ⊥
IsNoHead block f.TrailerDiffers = ⊥
IsNoHead block (f.TooManyRows rows) = ⊥
IsNoHead block f.BadIndexPlace = ⊥
IsNoHead block (f.Row number fault) = ⊥
IsNoHead block (f.RowOrder number) = ⊥
IsNoHead block (f.RowRange number) = ⊥
IsNoHead block (f.RowPlace number) = ⊥
IsNoHead block f.Memory = ⊥

-- it has its trailer too, and few rows
pub record HasFewRows (file : List ℕ) (head : Head) : Type 0 where
  pub framed : IsFramed file head
  pub few : head.rows ≤ 2 ^ 24

-- its index has its place, and the first rows are as a layer's are
pub record HasRows (file : List ℕ) (head : Head) (rows : List Row) : Type 0 where
  pub front : HasFewRows file head
  pub index : IsIndexPlace (length file) head.index_at head.rows
  pub more : length rows < head.rows
  pub spelled : AreSpelled file head.index_at rows
  pub sound : AreLayerRows head.sectors head.index_at 0 rows

-- the row of sixteen bytes begins no earlier than `low`, ends within the image, and so on
pub record IsOrdered (bytes : List ℕ) (low : ℕ) (row : Row) : Type 0 where
  pub spelled : RowOf bytes row
  pub order : low ≤ row.offset

pub record IsRanged (head : Head) (bytes : List ℕ) (low : ℕ) (row : Row) : Type 0 where
  pub ordered : IsOrdered bytes low row
  pub range : row.offset + row.count ≤ head.sectors

-- the fault of sixteen bytes as the row of that number, where the row before ends at `low`
abbrev pub IsRowFault : Head → List ℕ → ℕ → ℕ → LayerFault → Type 0
IsRowFault head bytes low number (f.Row at fault) = (at ≡ number) × (count_in bytes ≡ 0)
IsRowFault head bytes low number (f.RowOrder at) = (at ≡ number) × ((row : Row) × RowOf bytes row × (row.offset < low))
IsRowFault head bytes low number (f.RowRange at) = (at ≡ number) × ((row : Row) × IsOrdered bytes low row × (head.sectors < row.offset + row.count))
IsRowFault head bytes low number (f.RowPlace at) = (at ≡ number) × ((row : Row) × IsRanged head bytes low row × (IsInData head.index_at row → ⊥))
IsRowFault head bytes low number f.Failed = ⊥
IsRowFault head bytes low number f.Short = ⊥
IsRowFault head bytes low number (f.Head fault) = ⊥
IsRowFault head bytes low number f.TrailerDiffers = ⊥
IsRowFault head bytes low number (f.TooManyRows rows) = ⊥
IsRowFault head bytes low number f.BadIndexPlace = ⊥
IsRowFault head bytes low number f.Memory = ⊥

-- the file is a layer's up to some row, which has this fault
pub record StopsAtRow (file : List ℕ) (fault : LayerFault) : Type 0 where
  pub head : Head
  pub rows : List Row
  pub before : HasRows file head rows
  pub here : IsRowFault head (take 16 (drop (head.index_at + 16 * length rows) file)) (end_of 0 rows) (length rows) fault

-- the fault is the file's first one; of the shelf's fault and want of memory nothing is said
abbrev pub IsLayerFault : List ℕ → LayerFault → Type 0
IsLayerFault file f.Failed = ⊤
IsLayerFault file f.Short = length file < 8192
IsLayerFault file (f.Head fault) = (8192 ≤ length file) × IsFault SealedHead (raw_head (take 4096 file)) fault
IsLayerFault file f.TrailerDiffers = (head : Head) × HasHead file head × (drop (length file - 4096) file ≢ slice_set (take 4096 file) 12 6)
IsLayerFault file (f.TooManyRows rows) = (head : Head) × IsFramed file head × (rows ≡ head.rows) × (2 ^ 24 < rows)
IsLayerFault file f.BadIndexPlace = (head : Head) × HasFewRows file head × (IsIndexPlace (length file) head.index_at head.rows → ⊥)
IsLayerFault file (f.Row number fault) = StopsAtRow file (f.Row number fault)
IsLayerFault file (f.RowOrder number) = StopsAtRow file (f.RowOrder number)
IsLayerFault file (f.RowRange number) = StopsAtRow file (f.RowRange number)
IsLayerFault file (f.RowPlace number) = StopsAtRow file (f.RowPlace number)
IsLayerFault file f.Memory = ⊤
