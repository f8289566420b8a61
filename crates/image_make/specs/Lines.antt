-- The lines that `make` prints.
use Rattle.std.specs.Prelude.{ℕ, List, [], ◌∷◌, ◌++◌, codes, decimal}
use Rattle.std.specs.List.{concat}
use Rattle.image_make.specs.declared.tally.Tally.{Tally}

-- how many acts there were, and how many of each kind
abbrev pub changes_text : ℕ → ℕ → ℕ → List ℕ
changes_text acts writes zeros =
    concat (codes "made acts " ∷ decimal acts ∷ codes " writes " ∷ decimal writes ∷ codes " zeros " ∷ decimal zeros ∷ [])

abbrev pub others_text : ℕ → ℕ → ℕ → List ℕ
others_text flushes commits refused =
    concat (codes " flushes " ∷ decimal flushes ∷ codes " commits " ∷ decimal commits ∷ codes " refused " ∷ decimal refused ∷ codes "\n" ∷ [])

abbrev pub made_line : ℕ → Tally → List ℕ
made_line acts tally = changes_text acts tally.writes tally.zeros ++ others_text tally.flushes tally.commits tally.refused

-- what the image holds
abbrev pub image_line : ℕ → ℕ → List ℕ
image_line filled total = concat (codes "image sectors 4096 filled " ∷ decimal filled ∷ codes " sum " ∷ decimal total ∷ codes "\n" ∷ [])

abbrev pub made_lines : ℕ → Tally → ℕ → ℕ → List ℕ
made_lines acts tally filled total = made_line acts tally ++ image_line filled total
