-- What a shelf tells that is handed to an image over no layers.
use Rattle.std.specs.Prelude.{◌≡◌, ℕ, zero, suc, List, [], length, Option, Some, None, IfSome, refl}

-- that it has no files; of more it would tell none
abbrev pub files_of_none : ℕ → Option (List (List ℕ))
files_of_none zero = Some []
files_of_none (suc n) = None

pub none-counted : (count : ℕ) → IfSome (files_of_none count) (λ list. length list ≡ count)
none-counted zero = refl
none-counted (suc n) = tt
