-- What the words behind the program's name ask main for.
use Rattle.std.specs.Prelude.{ℕ, Bool, false, if◌then◌else◌, List, [], ◌∷◌, Option, None, Some, codes}
use Rattle.std.specs.Str.{bytes_eq}

-- the first word is `--config`
abbrev pub is_configured : List (List ℕ) → Bool
is_configured [] = false
is_configured (first ∷ rest) = bytes_eq first (codes "--config")

-- a path, and the words behind it
abbrev pub path_and_words : List (List ℕ) → Option (Option (List ℕ) × List (List ℕ))
path_and_words [] = None
path_and_words (path ∷ words) = Some (Some path, words)

abbrev pub behind_flag : List (List ℕ) → Option (Option (List ℕ) × List (List ℕ))
behind_flag [] = None
behind_flag (flag ∷ rest) = path_and_words rest

-- the path of a configuration where the first word is `--config`, and the words of the command
abbrev pub parted : List (List ℕ) → Option (Option (List ℕ) × List (List ℕ))
parted words = if is_configured words then behind_flag words else Some (None, words)
