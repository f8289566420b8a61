-- A map from the numbers of files to their bytes.
use Rattle.std.specs.Prelude.{ℕ, List, [], ◌∷◌, if◌then◌else◌, ◌==◌, Option, None, Some, Vec}
use Rattle.std.specs.BTreeMap.{BTreeMap, get}
use Rattle.std.specs.Ordering.{nat_cmp}
use Rattle.std.specs.declared.alloc.Global.{Global}

abbrev pub FileMap : Type 0
FileMap = BTreeMap ℕ (Vec ℕ Global)

abbrev pub items_of : Option (Vec ℕ Global) → List ℕ
items_of None = []
items_of (Some v) = v.items

-- the bytes of that file, and none where the map does not have it
abbrev pub bytes_in : FileMap → ℕ → List ℕ
bytes_in map f = items_of (get nat_cmp map f)

-- the bytes of that file in a list of files, of which the first with the number counts
abbrev pub listed : List (ℕ × List ℕ) → ℕ → List ℕ
listed [] f = []
listed (file ∷ files) f = if file.0 == f then file.1 else listed files f
