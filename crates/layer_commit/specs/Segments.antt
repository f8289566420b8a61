-- What a segment of a table adds to the rows and the sources of a sealing.
use Rattle.std.specs.Prelude.{◌≡◌, ℕ, ◌+◌, ◌*◌, ◌≤◌, Bool, true, false, if◌then◌else◌, List, [], ◌∷◌, ◌++◌, length}
use Rattle.block_disk.specs.Changes.{piece}
use Rattle.seg_table.specs.declared.segment.Segment.{Segment}
use Rattle.seg_table.specs.declared.segment.What.{What}
use Rattle.seg_table.specs.declared.segment.What.TheVariants as what
use Rattle.seg_table.specs.Pieces.{end_of}
use Rattle.flat_image.specs.CanonicalFiles.{Stretch}
use Rattle.sealed_layer.specs.Canon.{CanonState, rows_ahead, last_end}
use Rattle.layer_commit.specs.declared.source.Source.{Source}
use Rattle.layer_commit.specs.Sources.{AreSources, AreWithin, copied, counted}

abbrev pub is_zero : What → Bool
is_zero what.Zero = true
is_zero (what.Place place) = false

-- its cells as a stretch
abbrev pub stretch_of : Segment → Stretch
stretch_of segment = record { at = segment.extent.at; count = segment.extent.count; zeroed = is_zero segment.what }

-- how many sectors it has in a data file, and their bytes
abbrev pub filled_by : Segment → ℕ
filled_by segment = if is_zero segment.what then 0 else segment.extent.count

abbrev pub bytes_by : List ℕ → What → ℕ → List ℕ
bytes_by stored what.Zero count = []
bytes_by stored (what.Place place) count = piece (512 * place) (512 * count) stored

-- the data file is long enough for it
abbrev pub HasRoom : List ℕ → What → ℕ → Type 0
HasRoom stored what.Zero count = Unit {0}
HasRoom stored (what.Place place) count = 512 * (place + count) ≤ length stored

-- the rows go on by its stretch, and the sources by its sectors
pub record Adds (segment : Segment) (old new : CanonState) (sources new_sources : List Source) : Type 0 where
  pub rows : (more : List Stretch) → rows_ahead new more ≡ rows_ahead old (stretch_of segment ∷ more)
  pub end : last_end new ≡ end_of segment
  pub are : AreSources 8 new_sources
  pub counted : counted new_sources ≡ counted sources + filled_by segment
  pub bytes : (stored : List ℕ) → copied stored new_sources ≡ copied stored sources ++ bytes_by stored segment.what segment.extent.count
  pub within : (stored : List ℕ) → AreWithin stored sources → HasRoom stored segment.what segment.extent.count → AreWithin stored new_sources
