-- A shelf of one file, which a disk has.
use Rattle.std.specs.Prelude.{◌≡◌, ℕ, List, [], ◌∷◌, length, refl, Bool, true, false, Option, Some, None, IfSome}

-- what contracts see of it: the disk, and the number of the file
pub record OneFile (D : Type 0) : Type 0 where
  pub disk : D
  pub file : ℕ

-- its one file, where the disk tells
abbrev pub told_file : Bool → List ℕ → Option (List (List ℕ))
told_file true file = Some (file ∷ [])
told_file false file = None

pub one-counted : (tells : Bool) (file : List ℕ) → IfSome (told_file tells file) (λ list. length list ≡ 1)
one-counted true file = refl
one-counted false file = tt
