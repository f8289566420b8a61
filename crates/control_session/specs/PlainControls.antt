-- What a control port in memory stands for.
use Rattle.std.specs.Prelude.{ℕ, ◌-◌, ◌^◌, true, List, [], ◌∷◌, replicate}
use Rattle.flat_image.specs.declared.act.Act.TheVariants.{Freeze, Seal}
use Rattle.flat_image.specs.Base.{fresh}
use Rattle.flat_image.specs.Entries.{entry}
use Rattle.flat_image.specs.History.{History}
use Rattle.flat_image.specs.Ports.{PortState}

-- what commits note, one after another
abbrev pub noted : List (List ℕ) → History
noted [] = []
noted (uuid ∷ uuids) = entry 0 (Freeze uuid) ∷ entry 0 (Seal uuid) ∷ noted uuids

-- an image of so many sectors over one lower layer, whose file has so many bytes, behind these commits. Its history is
-- full behind 255 of them
abbrev pub plain_control : ℕ → ℕ → List (List ℕ) → PortState
plain_control sectors lower sealed = record
    { home = []; tells = true; base = fresh sectors (replicate lower 0 ∷ []); first = 2 ^ 62 - 510; number = 0; seen = noted sealed; faults = 0 }
