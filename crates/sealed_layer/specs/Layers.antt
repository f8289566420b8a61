-- What is kept of a layer in memory: its head and its rows.
use Rattle.std.specs.Prelude.{◌≡◌, ◌%◌, ◌^◌, ◌<◌, ◌≤◌, List, length, All}
use Rattle.seg_mapping.specs.declared.Row.{Row}
use Rattle.seg_mapping.specs.Rows.{Fits}
use Rattle.lsmt_header.specs.declared.head.Head.{Head}
use Rattle.lsmt_header.specs.declared.head.Kind.TheVariants.{SealedHead}
use Rattle.lsmt_header.specs.Blocks.{IsValid}
use Rattle.lsmt_header.specs.Blocks as blocks
use Rattle.flat_image.specs.RowCells.{AreLayerRows}

-- a layer without its data
pub record LayerIndex : Type 0 where
  pub head : Head
  pub rows : List Row

-- the tag of a row is a byte
abbrev pub IsTagged : Row → Type 0
IsTagged row = row.tag < 2 ^ 8

-- the head is one of a sealed layer, and the rows are those of a file of at most 2^50 bytes with that head
pub record IsLayerIndex (head : Head) (rows : List Row) : Type 0 where
  pub kind : head.kind ≡ SealedHead
  pub valid : IsValid head
  pub sized : blocks.Fits head
  pub from : 4096 ≤ head.index_at
  pub whole : head.index_at % 512 ≡ 0
  pub index_at : head.index_at ≤ 2 ^ 50
  pub few : head.rows ≤ 2 ^ 24
  pub count : length rows ≡ head.rows
  pub fits : All Fits rows
  pub tags : All IsTagged rows
  pub sound : AreLayerRows head.sectors head.index_at 0 rows
