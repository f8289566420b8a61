-- A sealed layer file: a header block, sectors of data, rows, padding, and the header again as a trailer.
use Rattle.std.specs.Prelude.{◌≡◌, ℕ, ◌+◌, ◌-◌, ◌*◌, ◌/◌, ◌%◌, ◌^◌, ◌≤◌, List, [], ◌∷◌, length, take, drop, slice_set}
use Rattle.seg_mapping.specs.declared.Row.{Row}
use Rattle.lsmt_header.specs.declared.head.Head.{Head}
use Rattle.lsmt_header.specs.declared.head.Kind.TheVariants.{SealedHead}
use Rattle.lsmt_header.specs.Blocks.{BlockOf}
use Rattle.flat_image.specs.Sheets.{Cell}
use Rattle.flat_image.specs.RowCells.{sheet_of, AreLayerRows, AreSpelled}

-- the first block is the head's, and the last one is the same with the byte at 12, the low byte of the flags, made 6
pub record IsFramed (file : List ℕ) (head : Head) : Type 0 where
  pub long : 8192 ≤ length file
  pub front : BlockOf (take 4096 file) head
  pub kind : head.kind ≡ SealedHead
  pub end : drop (length file - 4096) file ≡ slice_set (take 4096 file) 12 6

-- a number of bytes, made up to whole blocks
abbrev pub whole_blocks : ℕ → ℕ
whole_blocks bytes = (bytes + 4095) / 4096 * 4096

-- an index of so many rows from `index_at` on, its padding and a trailer fill a file of that length
pub record IsIndexPlace (len index_at rows : ℕ) : Type 0 where
  pub from : 4096 ≤ index_at
  pub whole : index_at % 512 ≡ 0
  pub end : whole_blocks (index_at + 16 * rows) + 4096 ≡ len

-- the file is a layer's, with this head and these rows
pub record LayerOf (file : List ℕ) (head : Head) (rows : List Row) : Type 0 where
  pub framed : IsFramed file head
  pub few : head.rows ≤ 2 ^ 24
  pub index : IsIndexPlace (length file) head.index_at head.rows
  pub count : length rows ≡ head.rows
  pub spelled : AreSpelled file head.index_at rows
  pub sound : AreLayerRows head.sectors head.index_at 0 rows

-- the file is a layer's, with this head and this sheet
pub record LayerFile (file : List ℕ) (head : Head) (sheet : List Cell) : Type 0 where
  pub rows : List Row
  pub layer : LayerOf file head rows
  pub sheet_is : sheet ≡ sheet_of file head.sectors rows

-- the file is that of a layer with this head
pub record IsHeadOf (file : List ℕ) (head : Head) : Type 0 where
  pub sheet : List Cell
  pub layer : LayerFile file head sheet

-- each file is that of a layer, with its head
abbrev pub AreHeadsOf : List (List ℕ) → List Head → Type 0
AreHeadsOf [] [] = Unit {0}
AreHeadsOf [] (head ∷ heads) = ⊥
AreHeadsOf (file ∷ files) [] = ⊥
AreHeadsOf (file ∷ files) (head ∷ heads) = IsHeadOf file head × AreHeadsOf files heads
