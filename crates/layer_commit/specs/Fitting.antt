-- What holds of a sealing and its two files, from call to call.
use Rattle.std.specs.Prelude.{◌≡◌, ◌≢◌, ℕ, ◌+◌, ◌*◌, ◌^◌, ◌<◌, ◌≤◌, List, length, take, Bool, IsTrue}
use Rattle.seg_table.specs.Cells.{Table, cells_of}
use Rattle.block_disk.specs.DiskState.{DiskState}
use Rattle.flat_image.specs.CanonicalFiles.{canonical_head, file_of}
use Rattle.flat_image.specs.LayerFiles.{LayerFile}
use Rattle.flat_image.specs.Stacks.{StandsOn}
use Rattle.sealed_layer.specs.Layers.{IsLayerIndex}
use Rattle.layer_commit.specs.Gathered.{Reaches}
use Rattle.layer_commit.specs.Sources.{AreSources, AreWithin, counted, table_sheet}
use Rattle.layer_commit.specs.View.{SealView, file_by, pieces_of}

-- what never changes of it
pub record IsSound (v : SealView) : Type 0 where
  pub apart : v.from_file ≢ v.to_file
  pub layer : IsLayerIndex v.head v.rows
  pub index : v.head.index_at ≡ 4096 + 512 * counted v.sources
  pub sources : AreSources 8 v.sources
  pub low : v.head.index_at ≤ 2 ^ 41
  pub room : v.room ≡ 131072
  pub done : v.done ≤ pieces_of v

-- the file is the whole one up to that byte, and no longer than that one, nor by more than a piece that failed
pub record IsWritten (upto : ℕ) (whole file : List ℕ) : Type 0 where
  pub same : take upto file ≡ take upto whole
  pub no_longer : length file ≤ length whole
  pub one_piece : length file ≤ upto + 131072

-- The sealing copies from a data file that begins with this data. Where it has begun, the new file is as far as it is
-- written what it will be.
pub record SealFits (tells : Bool) (now : DiskState) (v : SealView) (stored : List ℕ) : Type 0 where
  pub sound : IsSound v
  pub within : AreWithin stored v.sources
  pub source : IsTrue tells → take (length stored) (now.seen v.from_file) ≡ stored
  pub written : IsTrue tells → 0 < v.done → IsWritten (131072 * v.done) (file_by v stored) (now.seen v.to_file)

abbrev pub IsFitted : Bool → DiskState → SealView → Type 0
IsFitted tells now v = (stored : List ℕ) × SealFits tells now v stored

-- just as before, but so many pieces are written
abbrev pub with_done : SealView → ℕ → SealView
with_done v done = record v { done = done }

-- The file has these bytes, and a crash leaves them.
pub record IsWhole (tells : Bool) (now : DiskState) (file : ℕ) (bytes : List ℕ) : Type 0 where
  pub stays : (c : List ℕ) → now.may_leave file c → c ≡ bytes
  pub seen : IsTrue tells → now.seen file ≡ bytes

-- A sealing of a table, of which nothing is written. Whatever the frozen data file holds, the file is that of the table's
-- sheet, over a layer of that many sectors, and the sheet that it is read as is the table's.
pub record Begun (table : Table) (uuid parent : List ℕ) (below n from to : ℕ) (v : SealView) : Type 0 where
  pub sound : IsSound v
  pub from_is : v.from_file ≡ from
  pub to_is : v.to_file ≡ to
  pub none : v.done ≡ 0
  pub file : (stored : List ℕ) → file_by v stored ≡ file_of uuid parent below (table_sheet stored n table)
  pub head : (stored : List ℕ) → v.head ≡ canonical_head uuid parent below (table_sheet stored n table)
  pub within : (stored : List ℕ) → Reaches stored (cells_of table) → AreWithin stored v.sources
  pub stands : below ≤ n → StandsOn below v.head
  pub layer : (stored : List ℕ) → Reaches stored (cells_of table) → LayerFile (file_by v stored) v.head (table_sheet stored n table)
