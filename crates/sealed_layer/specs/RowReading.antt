-- Reading the rows of an index, one after another.
use Rattle.std.specs.Prelude.{ℕ, ◌+◌, ◌*◌, ◌<◌, List, length, take, drop, ⊤}
use Rattle.seg_mapping.specs.declared.Row.{Row}
use Rattle.lsmt_header.specs.declared.head.Head.{Head}
use Rattle.flat_image.specs.RowCells.{AreLayerRows, AreSpelled, end_of}
use Rattle.sealed_layer.specs.declared.fault.LayerFault.{LayerFault}
use Rattle.sealed_layer.specs.declared.fault.LayerFault.TheVariants as f
use Rattle.sealed_layer.specs.LayerFaults.{IsRowFault}

-- the first rows of the index are read, and are as a layer's are
pub record AreRead (file : List ℕ) (head : Head) (rows : List Row) : Type 0 where
  pub spelled : AreSpelled file head.index_at rows
  pub sound : AreLayerRows head.sectors head.index_at 0 rows

-- some first rows are read, and the next one has the fault
pub record StopsAt (file : List ℕ) (head : Head) (fault : LayerFault) : Type 0 where
  pub rows : List Row
  pub before : AreRead file head rows
  pub more : length rows < head.rows
  pub here : IsRowFault head (take 16 (drop (head.index_at + 16 * length rows) file)) (end_of 0 rows) (length rows) fault

-- why reading the rows stopped; of the shelf's fault and want of memory nothing is said
abbrev pub StopsReading : List ℕ → Head → LayerFault → Type 0
StopsReading file head f.Failed = ⊤
StopsReading file head f.Memory = ⊤
StopsReading file head f.Short = ⊥
StopsReading file head (f.Head fault) = ⊥
StopsReading file head f.TrailerDiffers = ⊥
StopsReading file head (f.TooManyRows rows) = ⊥
StopsReading file head f.BadIndexPlace = ⊥
StopsReading file head (f.Row number fault) = StopsAt file head (f.Row number fault)
StopsReading file head (f.RowOrder number) = StopsAt file head (f.RowOrder number)
StopsReading file head (f.RowRange number) = StopsAt file head (f.RowRange number)
StopsReading file head (f.RowPlace number) = StopsAt file head (f.RowPlace number)
