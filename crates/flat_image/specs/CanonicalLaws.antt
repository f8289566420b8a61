-- Which sheets have a canonical file, and what a change adds to the stretches of a sheet.
use Rattle.std.specs.Prelude.{◌≡◌, ◌≢◌, ℕ, ◌+◌, ◌*◌, ◌^◌, ◌≤◌, Bool, List, length, All}
use Rattle.seg_mapping.specs.declared.Row.{Row}
use Rattle.lsmt_header.specs.Blocks.{nil}
use Rattle.flat_image.specs.Sheets.{Cell, IsSheet}
use Rattle.flat_image.specs.Sectors.{put_at}
use Rattle.flat_image.specs.CanonicalFiles.{Stretch, joined, stretches, canonical_rows, canonical_head, file_of}
use Rattle.flat_image.specs.RowCells.{sheet_of}
use Rattle.flat_image.specs.LayerFiles.{LayerFile}
use Rattle.flat_image.specs.Stacks.{StandsOn}
use Rattle.flat_image.specs.Stretches.{IsOf, AreStretches, AreLongest}

-- the sheet may become a layer of n sectors with that uuid, over the layer with the other
pub record CanBeLayer (n : ℕ) (uuid parent : List ℕ) (sheet : List Cell) : Type 0 where
  pub long : length uuid ≡ 16
  pub named : uuid ≢ nil
  pub parent_long : length parent ≡ 16
  pub sheet_is : IsSheet n sheet
  pub few : length (canonical_rows sheet) ≤ 2 ^ 24

-- then its file is that of a layer with this sheet
abbrev pub FileIsLayer : ℕ → List ℕ → List ℕ → ℕ → List Cell → Type 0
FileIsLayer n uuid parent below sheet =
    CanBeLayer n uuid parent sheet → LayerFile (file_of uuid parent below sheet) (canonical_head uuid parent below sheet) sheet

-- over a layer of no more sectors its head may stand
abbrev pub HeadStands : List ℕ → List ℕ → ℕ → List Cell → Type 0
HeadStands uuid parent below sheet = below ≤ length sheet → StandsOn below (canonical_head uuid parent below sheet)

-- the stretches of a sheet are its longest ones, and no others are
pub record StretchesAreLongest (sheet : List Cell) : Type 0 where
  pub are : AreStretches 0 sheet (stretches 0 sheet)
  pub longest : AreLongest (stretches 0 sheet)
  pub only : (list : List Stretch) → AreStretches 0 sheet list → AreLongest list → list ≡ stretches 0 sheet

-- whatever stretches have the cells of a sheet, joined they are its longest ones
abbrev pub JoinedAreLongest : List Cell → Type 0
JoinedAreLongest sheet = (list : List Stretch) → AreStretches 0 sheet list → joined list ≡ stretches 0 sheet

-- a sheet of few stretches has few rows
abbrev pub FewRows : List Cell → Type 0
FewRows sheet = length sheet ≤ 2 ^ 31 → length (stretches 0 sheet) ≤ 2 ^ 23 → length (canonical_rows sheet) ≤ 2 ^ 24

-- cells of one kind that are put into a sheet make two stretches more of it at most
abbrev pub AddsTwo : List Cell → Type 0
AddsTwo sheet =
    (at : ℕ) (zeroed : Bool) (new : List Cell) → All (IsOf zeroed) new
    → length (stretches 0 (put_at at new sheet)) ≤ length (stretches 0 sheet) + 2

-- the sheet of rows, of whatever file and in whatever order, has no more than two stretches for each row
abbrev pub RowsMakeFew : List ℕ → ℕ → List Row → Type 0
RowsMakeFew file n rows = length (stretches 0 (sheet_of file n rows)) ≤ 2 * length rows
