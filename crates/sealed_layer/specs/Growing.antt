-- Rows that are read piece by piece.
use Rattle.std.specs.Prelude.{◌≡◌, ℕ, List, length, take, drop}
use Rattle.seg_mapping.specs.declared.Row.{Row}
use Rattle.lsmt_header.specs.declared.head.Head.{Head}
use Rattle.flat_image.specs.RowCells.{AreLayerRows, AreSpelled}

-- the new rows are the old ones and those that the front of the piece spells, and all are as a layer's are
pub record Grows (head : Head) (piece : List ℕ) (old new : List Row) : Type 0 where
  pub kept : take (length old) new ≡ old
  pub spelled : AreSpelled piece 0 (drop (length old) new)
  pub sound : AreLayerRows head.sectors head.index_at 0 new
