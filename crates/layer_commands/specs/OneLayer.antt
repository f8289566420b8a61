-- Flattening the one layer whose file is in memory.
use Rattle.std.specs.Prelude.{◌≡◌, ℕ, List, [], ◌∷◌, Option}
use Rattle.std.specs.Io.KnownBytes.{Appends, Keeps}
use Rattle.byte_ports.specs.Ports.{AppendsFront}
use Rattle.layer_commands.specs.declared.refusal.Refusal.{Refusal}
use Rattle.layer_commands.specs.declared.refusal.Refusal.TheVariants.{SinkFault, Memory, Layer}
use Rattle.layer_commands.specs.Prints.{LayerSheet, AreLayers, flat_image}
use Rattle.layer_commands.specs.Causes.{StopsAt}

-- the flat image of the layer whose file this is
abbrev pub IsImageOf : List ℕ → List ℕ → Type 0
IsImageOf file bytes = (layers : List LayerSheet) × AreLayers (file ∷ []) layers × (bytes ≡ flat_image layers)

abbrev pub WritesImage : List ℕ → Option (List ℕ) → Option (List ℕ) → Type 0
WritesImage file old new = (bytes : List ℕ) × IsImageOf file bytes × Appends old new bytes

abbrev pub WritesFront : List ℕ → Option (List ℕ) → Option (List ℕ) → Type 0
WritesFront file old new = (bytes : List ℕ) × IsImageOf file bytes × AppendsFront old new bytes

-- why it was refused, and what was written then
abbrev pub IsImageCause : List ℕ → Option (List ℕ) → Option (List ℕ) → Refusal → Type 0
IsImageCause file old new (Layer number fault) = StopsAt (file ∷ []) number fault × Keeps old new
IsImageCause file old new SinkFault = WritesFront file old new
IsImageCause file old new Memory = Keeps old new
IsImageCause file old new other = ⊥
