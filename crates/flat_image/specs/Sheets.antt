-- Images, sheets, and how a sheet is painted over an image.
use Rattle.std.specs.Prelude.{◌≡◌, ℕ, zero, suc, ◌-◌, ◌^◌, ◌≤◌, List, [], ◌∷◌, ◌++◌, length, replicate, take, drop, All}
use Rattle.std.specs.List.{concat, fold}

-- a sector of zeros
unfoldable pub zero_sector : List ℕ
zero_sector = replicate {A = ℕ} 512 0

-- what a layer says of one sector: nothing, that it is zero, or its bytes
pub data Cell : Type 0 where
  Hole : Cell
  Zero : Cell
  Filled : List ℕ → Cell

-- a sector has 512 bytes
abbrev pub IsSector : List ℕ → Type 0
IsSector sector = length sector ≡ 512

-- a cell that is filled has a sector
abbrev pub IsCell : Cell → Type 0
IsCell Hole = Unit {0}
IsCell Zero = Unit {0}
IsCell (Filled sector) = IsSector sector

-- an image has 1 to 2^31 sectors
pub record IsImage (n : ℕ) (image : List (List ℕ)) : Type 0 where
  pub some : 1 ≤ n
  pub few : n ≤ 2 ^ 31
  pub count : length image ≡ n
  pub sectors : All IsSector image

-- a sheet has a cell for each sector of an image
pub record IsSheet (n : ℕ) (sheet : List Cell) : Type 0 where
  pub some : 1 ≤ n
  pub few : n ≤ 2 ^ 31
  pub count : length sheet ≡ n
  pub cells : All IsCell sheet

-- a sector of an image under a cell
abbrev pub painted : List ℕ → Cell → List ℕ
painted old Hole = old
painted old Zero = zero_sector
painted old (Filled new) = new

-- the image under the sheet, place by place; where the sheet is longer, over sectors of zeros
abbrev pub paint : List (List ℕ) → List Cell → List (List ℕ)
paint [] [] = []
paint [] (cell ∷ cells) = painted zero_sector cell ∷ paint [] cells
paint (sector ∷ sectors) [] = sector ∷ sectors
paint (sector ∷ sectors) (cell ∷ cells) = painted sector cell ∷ paint sectors cells

-- the image, with sectors of zeros behind it up to n sectors
abbrev pub lengthened : ℕ → List (List ℕ) → List (List ℕ)
lengthened n image = image ++ replicate (n - length image) zero_sector

-- the sheets painted over the image of no sectors, the lowest first, and then zeros up to n sectors
abbrev pub flat : ℕ → List (List Cell) → List (List ℕ)
flat n sheets = lengthened n (fold paint [] sheets)

-- an image as bytes
abbrev pub bytes_of : List (List ℕ) → List ℕ
bytes_of image = concat image

-- the first n sectors of an image that stands as bytes
abbrev pub image_in : ℕ → List ℕ → List (List ℕ)
image_in zero bytes = []
image_in (suc n) bytes = take 512 bytes ∷ image_in n (drop 512 bytes)
