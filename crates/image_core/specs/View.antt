-- An image in memory, seen from above.
use Rattle.std.specs.Prelude.{◌≡◌, ℕ, List, [], ◌∷◌, ◌++◌, length, map, slice_index_or, Option, Some, None}
use Rattle.std.specs.List.{range_with_len}
use Rattle.block_disk.specs.DiskState.{Files}
use Rattle.seg_table.specs.declared.segment.Segment.{Segment}
use Rattle.seg_table.specs.declared.segment.What.{What}
use Rattle.seg_table.specs.declared.segment.What.TheVariants as what
use Rattle.seg_table.specs.Cells.{cell_in}
use Rattle.flat_image.specs.declared.base.Base.{Base}
use Rattle.flat_image.specs.Sheets.{Cell, Hole, Zero, Filled}
use Rattle.flat_image.specs.Frozen.{Frozen}
use Rattle.flat_image.specs.LayerFiles.{LayerOf}
use Rattle.flat_image.specs.LayerReading.{sheet_in}
use Rattle.sealed_layer.specs.Layers.{LayerIndex}
use Rattle.top_writer.specs.Files.{data_file}
use Rattle.top_writer.specs.View.{cell_at}
use Rattle.image_core.specs.Numbers.{sealed_file}
use Rattle.image_core.specs.Shows.{epoch_of, AreSealed}

-- a commit in progress: its uuid, the epoch and the table of the frozen top, and how many pieces of its file are
-- written, of how many
pub record CommitView : Type 0 where
  pub uuid : List ℕ
  pub epoch : ℕ
  pub table : List Segment
  pub done : ℕ
  pub total : ℕ

pub record ImageView : Type 0 where
  pub sectors : ℕ
  -- the layers below, and those that were committed, the lowest first
  pub lowers : List LayerIndex
  pub committed : List LayerIndex
  pub commit : Option CommitView
  -- the epoch and the table of the current top, and what that top has used
  pub epoch : ℕ
  pub table : List Segment
  pub rows : ℕ
  pub filled : ℕ
  pub steps : ℕ

-- each layer has the head and the rows of its file
abbrev pub AreLayersOf : List (List ℕ) → List LayerIndex → Type 0
AreLayersOf [] [] = Unit {0}
AreLayersOf [] (layer ∷ layers) = ⊥
AreLayersOf (file ∷ files) [] = ⊥
AreLayersOf (file ∷ files) (layer ∷ layers) = LayerOf file layer.head layer.rows × AreLayersOf files layers

-- an entry of a table is of the kind of a cell: none, zero, or a place
abbrev pub IsKindOf : Option What → Cell → Type 0
IsKindOf None Hole = Unit {0}
IsKindOf None Zero = ⊥
IsKindOf None (Filled sector) = ⊥
IsKindOf (Some what.Zero) Hole = ⊥
IsKindOf (Some what.Zero) Zero = Unit {0}
IsKindOf (Some what.Zero) (Filled sector) = ⊥
IsKindOf (Some (what.Place place)) Hole = ⊥
IsKindOf (Some (what.Place place)) Zero = ⊥
IsKindOf (Some (what.Place place)) (Filled sector) = Unit {0}

-- the table has entries of the kinds of the cells, and none behind them
abbrev pub HasKinds : List Cell → List Segment → Type 0
HasKinds cells table = (i : ℕ) → IsKindOf (cell_in table i) (slice_index_or cells i Hole)

-- the entries of the table, read of the data file, are the cells
abbrev pub ReadsAs : List ℕ → List Cell → List Segment → Type 0
ReadsAs file cells table = (i : ℕ) → cell_at file (cell_in table i) ≡ slice_index_or cells i Hole

-- the commit in progress, of the top of that epoch, is what is frozen, as its table says
abbrev pub IsCommitOf : ℕ → Option Frozen → Option CommitView → Type 0
IsCommitOf epoch None None = Unit {0}
IsCommitOf epoch None (Some commit) = ⊥
IsCommitOf epoch (Some frozen) None = ⊥
IsCommitOf epoch (Some frozen) (Some commit) = (commit.uuid ≡ frozen.uuid) × (commit.epoch ≡ epoch) × HasKinds frozen.sheet commit.table

-- and as it reads through its data file
abbrev pub CommitReadsAs : List ℕ → Option Frozen → Option CommitView → Type 0
CommitReadsAs file None commit = Unit {0}
CommitReadsAs file (Some frozen) None = ⊥
CommitReadsAs file (Some frozen) (Some commit) = ReadsAs file frozen.sheet commit.table

-- whether the disk tells or not: the image in memory is of the layers and of the kinds of cells of that base
pub record IsViewOf (b : Base) (v : ImageView) : Type 0 where
  pub sectors : v.sectors ≡ b.sectors
  pub lowers : AreLayersOf b.lowers v.lowers
  pub committed : AreLayersOf b.done v.committed
  pub commit : IsCommitOf (length b.done) b.frozen v.commit
  pub epoch : v.epoch ≡ epoch_of b
  pub table : HasKinds b.top v.table
  pub rows : v.rows ≡ b.rows
  pub filled : v.filled ≡ b.filled

-- where the disk tells: the files that it reads as are those of the base, and the tables read through them have its cells
pub record ReadsAsBase (files : Files) (b : Base) (v : ImageView) : Type 0 where
  pub committed : AreSealed b.done files
  pub commit : CommitReadsAs (files (data_file (length b.done))) b.frozen v.commit
  pub table : ReadsAs (files (data_file (epoch_of b))) b.top v.table

-- the cells of n sectors that a table says, read of a data file
abbrev pub cells_read : List ℕ → List Segment → ℕ → List Cell
cells_read file table n = map (λ i. cell_at file (cell_in table i)) (range_with_len 0 n)

-- the committed files as they read
abbrev pub sealed_read : Files → ℕ → List (List ℕ)
sealed_read files count = map (λ k. files (sealed_file k)) (range_with_len 0 count)

-- the frozen sheet of n sectors as it reads
abbrev pub commit_read : Files → Option CommitView → ℕ → List (List Cell)
commit_read files None n = []
commit_read files (Some commit) n = cells_read (files (data_file commit.epoch)) commit.table n ∷ []

-- the sheets that the image in memory reads, over these lower layers and through these files
abbrev pub sheets_read : Files → List (List ℕ) → ImageView → List (List Cell)
sheets_read files lowers v =
    map sheet_in (lowers ++ sealed_read files (length v.committed))
    ++ (commit_read files v.commit v.sectors ++ cells_read (files (data_file v.epoch)) v.table v.sectors ∷ [])
