-- Images over the files of a shelf.
use Rattle.std.specs.Prelude.{◌≡◌, ℕ, List}
use Rattle.flat_image.specs.declared.base.Base.{Base}
use Rattle.flat_image.specs.History.{History}
use Rattle.image_core.specs.Seen.{Seen, StandsFor}

-- the image stands for a history over lower layers with these files
abbrev pub IsOver : List (List ℕ) → Seen → Type 0
IsOver files image = (base : Base) × (history : History) × (base.lowers ≡ files) × StandsFor image base history
