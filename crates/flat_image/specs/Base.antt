-- What an image starts from: layers, perhaps a frozen sheet, a top, and what its top has used.
use Rattle.std.specs.Prelude.{◌≡◌, ◌≢◌, ℕ, ◌-◌, ◌*◌, ◌^◌, ◌≤◌, List, [], ◌∷◌, ◌++◌, length, All, Option, Some, None, IfSome, map, replicate, option_map}
use Rattle.lsmt_header.specs.declared.head.Head.{Head}
use Rattle.lsmt_header.specs.Blocks.{nil}
use Rattle.flat_image.specs.declared.base.Base.{Base}
use Rattle.flat_image.specs.Sheets.{Cell, Hole, IsSheet, flat}
use Rattle.flat_image.specs.Frozen.{Frozen}
use Rattle.flat_image.specs.CanonicalFiles.{stretches}
use Rattle.flat_image.specs.LayerFiles.{IsHeadOf}
use Rattle.flat_image.specs.LayerReading.{sheet_in, uuid_in, size_in}
use Rattle.flat_image.specs.Stacks.{uppermost, AreRising}

-- a sheet that says nothing
abbrev pub holes : ℕ → List Cell
holes n = replicate n Hole

-- the sheet, with holes behind it up to n cells
abbrev pub with_holes : ℕ → List Cell → List Cell
with_holes n sheet = sheet ++ holes (n - length sheet)

-- an image over these layers in which nothing was written
abbrev pub fresh : ℕ → List (List ℕ) → Base
fresh n lowers = record
    { sectors = n; lowers = lowers; done = []; frozen = None; top = holes n; rows = 0; filled = 0; faults = 0 }

-- the uuid of a commit in progress
abbrev pub pending_of : Option Frozen → Option (List ℕ)
pending_of frozen = option_map (λ f. f.uuid) frozen

-- the uuid of the uppermost file, or that of no layer
abbrev pub top_uuid : List (List ℕ) → List ℕ
top_uuid files = uppermost nil (map uuid_in files)

-- the sectors of the uppermost file, or n where there is none
abbrev pub top_size : ℕ → List (List ℕ) → ℕ
top_size n files = uppermost n (map size_in files)

-- the sheet of a commit in progress
abbrev pub sheet_list : Option Frozen → List (List Cell)
sheet_list None = []
sheet_list (Some f) = f.sheet ∷ []

-- the sheets of an image, the lowest first
abbrev pub sheets_of : Base → List (List Cell)
sheets_of base = map sheet_in (base.lowers ++ base.done) ++ (sheet_list base.frozen ++ base.top ∷ [])

-- what the image reads as
abbrev pub image_of : Base → List (List ℕ)
image_of base = flat base.sectors (sheets_of base)

-- the file is that of some layer
abbrev pub IsLayerFile : List ℕ → Type 0
IsLayerFile file = (head : Head) × IsHeadOf file head

-- the sheet may become a layer of n sectors with that uuid
pub record IsFrozen (n : ℕ) (frozen : Frozen) : Type 0 where
  pub long : length frozen.uuid ≡ 16
  pub named : frozen.uuid ≢ nil
  pub sheet_is : IsSheet n frozen.sheet

-- what an image may start from: layer files whose sectors do not fall and are at most its own, and sheets of its number of cells
pub record IsBase (base : Base) : Type 0 where
  pub top_is : IsSheet base.sectors base.top
  pub frozen_is : IfSome base.frozen (IsFrozen base.sectors)
  pub layers : All IsLayerFile (base.lowers ++ base.done)
  pub rising : AreRising 0 base.sectors (map size_in (base.lowers ++ base.done))

-- the top has no more than two stretches for each row that it has used, and the frozen sheet no more than a full top
pub record HasFewStretches (base : Base) : Type 0 where
  pub top : length (stretches 0 base.top) ≤ 2 * base.rows
  pub frozen : IfSome base.frozen (λ f. length (stretches 0 f.sheet) ≤ 2 ^ 23)
