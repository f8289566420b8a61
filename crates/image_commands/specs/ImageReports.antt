-- The lines that commands on an image print.
use Rattle.std.specs.Prelude.{ℕ, List, [], ◌∷◌, ◌++◌, codes, decimal}
use Rattle.std.specs.List.{concat}
use Rattle.layer_commands.specs.Texts.{uuid_text}

-- the lines of `create`, `write`, `zero`, `grow`, `commit` and `sweep`
abbrev pub created_line : ℕ → ℕ → List ℕ
created_line sectors layers = concat (codes "created sectors " ∷ decimal sectors ∷ codes " layers " ∷ decimal layers ∷ codes "\n" ∷ [])

abbrev pub wrote_line : ℕ → ℕ → List ℕ
wrote_line at count = concat (codes "wrote " ∷ decimal at ∷ codes " " ∷ decimal count ∷ codes "\n" ∷ [])

abbrev pub zeroed_line : ℕ → ℕ → List ℕ
zeroed_line at count = concat (codes "zeroed " ∷ decimal at ∷ codes " " ∷ decimal count ∷ codes "\n" ∷ [])

abbrev pub grown_line : ℕ → List ℕ
grown_line sectors = concat (codes "grown " ∷ decimal sectors ∷ codes "\n" ∷ [])

abbrev pub committed_line : List ℕ → ℕ → ℕ → List ℕ
committed_line uuid epoch size =
    codes "committed " ++ (uuid_text uuid ++ (codes " layer " ++ (decimal epoch ++ (codes " bytes " ++ (decimal size ++ codes "\n")))))

abbrev pub swept_line : ℕ → List ℕ
swept_line count = codes "swept " ++ (decimal count ++ codes "\n")
