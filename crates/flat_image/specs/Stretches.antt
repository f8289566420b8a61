-- The stretches of a sheet: which cells they have, and when they are the longest ones.
use Rattle.std.specs.Prelude.{◌≡◌, ◌≢◌, ℕ, ◌+◌, ◌≤◌, Bool, true, false, List, [], ◌∷◌, ◌++◌, length, All}
use Rattle.flat_image.specs.Sheets.{Cell, Hole, Zero, Filled}
use Rattle.flat_image.specs.CanonicalFiles.{Stretch}
use Rattle.flat_image.specs.Base.{holes}

-- the cell is zero, or it is filled
abbrev pub IsOf : Bool → Cell → Type 0
IsOf zeroed Hole = ⊥
IsOf zeroed Zero = zeroed ≡ true
IsOf zeroed (Filled sector) = zeroed ≡ false

-- cells from a place on begin with holes, and then with those of the stretch
pub record Begins (at : ℕ) (cells : List Cell) (stretch : Stretch) : Type 0 where
  pub gap : ℕ
  pub run : List Cell
  pub behind : List Cell
  pub splits : cells ≡ holes gap ++ (run ++ behind)
  pub place : stretch.at ≡ at + gap
  pub count : length run ≡ stretch.count
  pub some : 1 ≤ stretch.count
  pub kind : All (IsOf stretch.zeroed) run

-- the cells from a place on are those of the stretches, one after another, and holes
abbrev pub AreStretches : ℕ → List Cell → List Stretch → Type 0
AreStretches at cells [] = cells ≡ holes (length cells)
AreStretches at cells (stretch ∷ rest) =
    (begins : Begins at cells stretch) × AreStretches (stretch.at + stretch.count) begins.behind rest

-- the first of the stretches does not go on the given one
abbrev pub EndsBefore : Stretch → List Stretch → Type 0
EndsBefore stretch [] = Unit {0}
EndsBefore stretch (next ∷ rest) = next.at ≡ stretch.at + stretch.count → next.zeroed ≢ stretch.zeroed

-- none of the stretches goes on the one before
abbrev pub AreLongest : List Stretch → Type 0
AreLongest [] = Unit {0}
AreLongest (stretch ∷ rest) = EndsBefore stretch rest × AreLongest rest
