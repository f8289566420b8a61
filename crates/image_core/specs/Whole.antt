-- A read through the layers, sector by sector.
use Rattle.std.specs.Prelude.{◌≡◌, ℕ, ◌+◌, ◌-◌, ◌*◌, ◌^◌, ◌<◌, ◌≤◌, List, [], ◌∷◌, Option, Some, None, Result, Ok, Err}
use Rattle.sector_extent.specs.declared.extent.Extent.{Extent}
use Rattle.sector_extent.specs.Places.{IsIn}
use Rattle.flat_image.specs.declared.act.Act.{Act}
use Rattle.flat_image.specs.declared.act.Act.TheVariants.{Fault}
use Rattle.flat_image.specs.declared.act.Asked.TheVariants.{Nothing}
use Rattle.flat_image.specs.RowCells.{sector_at}
use Rattle.merged_index.specs.declared.piece.Piece.{Piece}
use Rattle.merged_index.specs.declared.piece.PieceWhat.{PieceWhat}
use Rattle.merged_index.specs.declared.piece.PieceWhat.TheVariants.{Hole, Zero, Filled}
use Rattle.merged_index.specs.Pieces.{end_of, onward}
use Rattle.merged_index.specs.Painting.{sector_of}
use Rattle.image_core.specs.declared.whole.WholeFault.{WholeFault}
use Rattle.image_core.specs.declared.whole.WholeFault.TheVariants.{Memory, DiskFault, ShelfFault}

-- what a read through the layers notes: its act, a fault where the disk failed, and nothing without memory or where the
-- shelf failed
abbrev pub noted_whole : {T : Type 0} → Act → Result T WholeFault → Option Act
noted_whole act (Ok value) = Some act
noted_whole act (Err Memory) = None
noted_whole act (Err DiskFault) = Some (Fault Nothing)
noted_whole act (Err ShelfFault) = None

-- the sectors that the cells read as in those files
abbrev pub sectors_by : List (List ℕ) → (ℕ → PieceWhat) → ℕ → List ℕ
sectors_by files cells sector = sector_of files (cells sector)

-- Of bytes that begin with the sector `at` of an image, the sectors from `from` up to `until` became those that are said.
-- All others are as they were.
pub record IsFilled (said : ℕ → List ℕ) (at from until : ℕ) (old new : List ℕ) : Type 0 where
  pub order : from ≤ until
  pub inside : (k : ℕ) → from ≤ at + k → at + k < until → sector_at new k ≡ said (at + k)
  pub before : (k : ℕ) → at + k < from → sector_at new k ≡ sector_at old k
  pub behind : (k : ℕ) → until ≤ at + k → sector_at new k ≡ sector_at old k

-- and so one extent after another
abbrev pub AreFilled : (ℕ → List ℕ) → ℕ → List Extent → List ℕ → List ℕ → Type 0
AreFilled said at [] old new = new ≡ old
AreFilled said at (extent ∷ extents) old new =
    (mid : List ℕ) × IsFilled said at extent.at (extent.at + extent.count) old mid × AreFilled said at extents mid new

-- the extent lies in so many bytes that begin with the sector `at`
pub record LiesIn (at size : ℕ) (extent : Extent) : Type 0 where
  pub from : at ≤ extent.at
  pub to : 512 * (extent.at + extent.count) ≤ 512 * at + size

-- so many sectors from that place on may be read of a shelf with so many files
abbrev pub IsReadable : ℕ → PieceWhat → ℕ → Type 0
IsReadable files Hole count = Unit {0}
IsReadable files Zero count = Unit {0}
IsReadable files (Filled layer place) count = (layer < files) × (place + count ≤ 2 ^ 41)

-- each layer that the cells name is one of so many files
abbrev pub AreOnShelf : ℕ → (ℕ → PieceWhat) → Type 0
AreOnShelf files cells = (sector layer place : ℕ) → cells sector ≡ Filled layer place → layer < files

-- both pieces as one: it begins with the first one and ends with the next one, and has what they have
pub record IsJoined (first next both : Piece) : Type 0 where
  pub begins : both.extent.at ≡ first.extent.at
  pub ends : end_of both ≡ end_of next
  pub what : both.what ≡ first.what
  pub goes_on : next.what ≡ onward first.what first.extent.count

-- the cells of a piece, as they would go on before and behind it
abbrev pub cells_on : Piece → ℕ → PieceWhat
cells_on piece sector = onward piece.what (sector - piece.extent.at)

-- The piece that was found last and is not read yet: it lies in the bytes, it may be read of a shelf with so many files, and
-- it has the cells of its sectors.
pub record Pending (files : ℕ) (cells : ℕ → PieceWhat) (at size : ℕ) (run : Piece) : Type 0 where
  pub there : LiesIn at size run.extent
  pub readable : IsReadable files run.what run.extent.count
  pub says : (sector : ℕ) → IsIn run.extent sector → cells sector ≡ cells_on run sector
