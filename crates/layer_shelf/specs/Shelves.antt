-- The files of a shelf.
use Rattle.std.specs.Prelude.{◌≡◌, ℕ, List, [], Option, slice_index_or}

-- the file of that number
abbrev pub file_at : List (List ℕ) → ℕ → List ℕ
file_at files k = slice_index_or files k []

-- In a call what a shelf tells of its files stays, and so does their number.
pub record SameFiles {S : Type 0} (told : S → Option (List (List ℕ))) (number : S → ℕ) (old new : S) : Type 0 where
  pub files : told new ≡ told old
  pub count : number new ≡ number old

-- what contracts see of a shelf in memory: its files, the numbers of the calls that fail, the number of
-- the next call, and the faults so far
pub record ShelfState : Type 0 where
  pub files : List (List ℕ)
  pub failing : List ℕ
  pub calls : ℕ
  pub faults : ℕ
