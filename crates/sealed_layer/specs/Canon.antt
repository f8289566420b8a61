-- Canonical rows from stretches that come one after another.
use Rattle.std.specs.Prelude.{ℕ, ◌+◌, List, ◌∷◌, ◌++◌, Option, Some, None}
use Rattle.std.specs.List.{flat_map}
use Rattle.seg_mapping.specs.declared.Row.{Row}
use Rattle.flat_image.specs.CanonicalFiles.{Stretch, joined, parts_of, rows_from}

-- rows that are fixed, where the next filled sector stands, and a stretch that may still grow
pub record CanonState : Type 0 where
  pub closed : List Row
  pub place : ℕ
  pub open_run : Option Stretch

-- the stretches that are not fixed yet, where these come next
abbrev pub opened : Option Stretch → List Stretch → List Stretch
opened None more = more
opened (Some stretch) more = stretch ∷ more

-- the canonical rows of stretches, with their sectors from that place on
abbrev pub rows_for_all : ℕ → List Stretch → List Row
rows_for_all place list = rows_from place (flat_map parts_of (joined list))

-- the rows that come out in the end, if just these stretches come next
unfoldable pub rows_ahead : CanonState → List Stretch → List Row
rows_ahead state more = state.closed ++ rows_for_all state.place (opened state.open_run more)

-- where the last stretch ends
abbrev pub end_of_run : Option Stretch → ℕ
end_of_run None = 0
end_of_run (Some stretch) = stretch.at + stretch.count

abbrev pub last_end : CanonState → ℕ
last_end state = end_of_run state.open_run
