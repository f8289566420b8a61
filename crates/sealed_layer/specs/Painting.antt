-- Painting the rows of a layer over a part of an image.
use Rattle.std.specs.Prelude.{◌≡◌, ℕ, ◌+◌, ◌-◌, ◌*◌, ◌/◌, true, false, List, length, take, drop, replicate}
use Rattle.seg_mapping.specs.declared.Row.{Row}
use Rattle.flat_image.specs.Sheets.{paint, bytes_of, image_in}
use Rattle.flat_image.specs.RowCells.{cells_from}

-- the new bytes are the sectors that the old ones are, painted with the cells that the rows make of the file, from sector `at` of the image on
abbrev pub Paints : List ℕ → List Row → ℕ → List ℕ → List ℕ → Type 0
Paints file rows at old new = new ≡ bytes_of (paint (image_in (length old / 512) old) (cells_from file rows at (length old / 512)))

-- the bytes that a row has for so many bytes of an image, from sector `from` on
pub record IsRowPiece (file : List ℕ) (row : Row) (from size : ℕ) (piece : List ℕ) : Type 0 where
  pub zeroed : row.zeroed ≡ true → piece ≡ replicate {A = ℕ} size 0
  pub filled : row.zeroed ≡ false → piece ≡ take size (drop (512 * (row.place + (from - row.offset))) file)
