-- Why the layers of a shelf were not read.
use Rattle.std.specs.Prelude.{◌≡◌, ℕ, List, Option, IfSome, ⊤}
use Rattle.layer_shelf.specs.Shelves.{file_at}
use Rattle.layer_stack.specs.Faults.{IsStackFault}
use Rattle.sealed_layer.specs.LayerFaults.{IsLayerFault}
use Rattle.sealed_layer.specs.declared.fault.LayerFault.{LayerFault}
use Rattle.sealed_layer.specs.declared.fault.LayerFault.TheVariants as f
use Rattle.layer_commands.specs.declared.refusal.Refusal.{Refusal}
use Rattle.layer_commands.specs.declared.refusal.Refusal.TheVariants.{ShelfFault, Memory, Layer, Stack}
use Rattle.layer_commands.specs.Prints.{LayerSheet, AreLayers, heads_of}
use Rattle.layer_commands.specs.Causes.{IsOfCount, IsOfFile, StopsAt}

-- the refusal that a fault of the file of that number is
abbrev pub refusal_of : ℕ → LayerFault → Refusal
refusal_of number f.Failed = ShelfFault
refusal_of number f.Memory = Memory
refusal_of number f.Short = Layer number f.Short
refusal_of number (f.Head fault) = Layer number (f.Head fault)
refusal_of number f.TrailerDiffers = Layer number f.TrailerDiffers
refusal_of number (f.TooManyRows rows) = Layer number (f.TooManyRows rows)
refusal_of number f.BadIndexPlace = Layer number f.BadIndexPlace
refusal_of number (f.Row row fault) = Layer number (f.Row row fault)
refusal_of number (f.RowOrder row) = Layer number (f.RowOrder row)
refusal_of number (f.RowRange row) = Layer number (f.RowRange row)
refusal_of number (f.RowPlace row) = Layer number (f.RowPlace row)

-- why file k was refused
abbrev pub IsFileRefusal : Option (List (List ℕ)) → ℕ → Refusal → Type 0
IsFileRefusal files k (Layer number fault) = (number ≡ k) × IfSome files (λ list. IsLayerFault (file_at list k) fault) × IsOfFile fault
IsFileRefusal files k ShelfFault = ⊤
IsFileRefusal files k Memory = ⊤
IsFileRefusal files k other = ⊥

-- why the files were not all read as layers
abbrev pub AreFilesRefused : Option (List (List ℕ)) → Refusal → Type 0
AreFilesRefused files (Layer number fault) = IfSome files (λ list. StopsAt list number fault)
AreFilesRefused files ShelfFault = ⊤
AreFilesRefused files Memory = ⊤
AreFilesRefused files other = ⊥

-- why the files were refused as a stack
abbrev pub IsStackRefusal : Option (List (List ℕ)) → ℕ → Refusal → Type 0
IsStackRefusal files count (Layer number fault) = IfSome files (λ list. StopsAt list number fault)
IsStackRefusal files count (Stack fault) =
    IsOfCount fault count × IfSome files (λ list. (layers : List LayerSheet) × AreLayers list layers × IsStackFault (heads_of layers) fault)
IsStackRefusal files count ShelfFault = ⊤
IsStackRefusal files count Memory = ⊤
IsStackRefusal files count other = ⊥
