-- Shelves with a cache round them.
use Rattle.std.specs.Prelude.{◌≡◌, ℕ, List, Option}
use Rattle.layer_shelf.specs.declared.shelves.Shelf as shelves
use Rattle.range_shelf.specs.CachedReads.{CachedState}

-- the shelf within the cache, and what stands beside it
abbrev pub bare : {S L : Type 0} → CachedState S × L → S × L
bare pair = (pair.0.shelf, pair.1)

-- a shelf that has so many files, and tells these of them, or none
abbrev pub HasFiles : {S : Type 0} → shelves.Ghosts S → Option (List (List ℕ)) → ℕ → S → Type 0
HasFiles s told count shelf = (s.count shelf ≡ count) × (s.files shelf ≡ told)
