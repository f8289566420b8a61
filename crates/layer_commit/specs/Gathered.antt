-- What is gathered of a whole table.
use Rattle.std.specs.Prelude.{◌≡◌, ℕ, ◌+◌, ◌*◌, ◌^◌, ◌<◌, ◌≤◌, List, [], length, map, Option, Some, None}
use Rattle.std.specs.List.{concat, range_with_len}
use Rattle.seg_table.specs.declared.segment.What.{What}
use Rattle.seg_table.specs.declared.segment.What.TheVariants as what
use Rattle.flat_image.specs.Sheets.{Cell}
use Rattle.flat_image.specs.CanonicalFiles.{canonical_rows, sectors_of}
use Rattle.sealed_layer.specs.Canon.{CanonState, rows_ahead}
use Rattle.layer_commit.specs.declared.source.Source.{Source}
use Rattle.layer_commit.specs.Sources.{AreSources, AreWithin, cell_at, copied, counted}

-- the cells of so many sectors from a place on, where this is the data file
abbrev pub cells_on : List ℕ → (ℕ → Option What) → ℕ → ℕ → List Cell
cells_on stored cells at count = map (λ i. cell_at stored (cells i)) (range_with_len at count)

-- no sector at n or past it is set
abbrev pub EndBy : ℕ → (ℕ → Option What) → Type 0
EndBy n cells = (i : ℕ) → n ≤ i → cells i ≡ None

-- every place is one that a canonical file may have
abbrev pub ArePlaces : (ℕ → Option What) → Type 0
ArePlaces cells = (i place : ℕ) → cells i ≡ Some (what.Place place) → place < 2 ^ 40

-- the data file is long enough for every place
abbrev pub Reaches : List ℕ → (ℕ → Option What) → Type 0
Reaches stored cells = (i place : ℕ) → cells i ≡ Some (what.Place place) → 512 * (place + 1) ≤ length stored

-- the rows, and the sectors that the sources have, are those of the canonical file of the sheet, whatever the data
pub record IsGathered (cells : ℕ → Option What) (state : CanonState) (sources : List Source) : Type 0 where
  pub rows : (n : ℕ) (stored : List ℕ) → EndBy n cells → rows_ahead state [] ≡ canonical_rows (cells_on stored cells 0 n)
  pub bytes : (n : ℕ) (stored : List ℕ) → EndBy n cells → copied stored sources ≡ concat (sectors_of (cells_on stored cells 0 n))
  pub count : (n : ℕ) (stored : List ℕ) → EndBy n cells → counted sources ≡ length (sectors_of (cells_on stored cells 0 n))
  pub are : AreSources 8 sources
  pub within : (stored : List ℕ) → Reaches stored cells → AreWithin stored sources
