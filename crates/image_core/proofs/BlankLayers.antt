-- Layers in memory are those of some files, also where no files are told.
use Rattle.std.proofs.Common.{◌≡◌, ℕ, ◌∙◌, List, [], ◌∷◌, sym, ap}
use Rattle.std.specs.Prelude.{All, Option, Some, None, IfSome}
use Rattle.std.proofs.lemmas.List.Elements.{All-head, All-tail}
use Rattle.block_disk.specs.DiskState.{DiskState}
use Rattle.sealed_layer.specs.Layers.{LayerIndex, IsLayerIndex}
use Rattle.sealed_layer.proofs.BlankFile.{blank-layer}
use Rattle.image_core.specs.View.{AreLayersOf}
use Rattle.image_core.specs.Opening.{blank_layers, lowers_from, blank_base}
use Rattle.image_core.specs.Parts.{parts_view}
use Rattle.image_core.specs.Seen.{Seen, IsLoaded, IsOpened}

abbrev IsSound : LayerIndex → Type 0
IsSound layer = IsLayerIndex layer.head layer.rows

pub layers-blank : (layers : List LayerIndex) → All (λ layer. IsLayerIndex layer.head layer.rows) layers → AreLayersOf (blank_layers layers) layers
layers-blank [] are = tt
layers-blank (layer ∷ layers) are =
    (blank-layer layer.head layer.rows (All-head IsSound layer layers are), layers-blank layers (All-tail IsSound layer layers are))

pub layers-from : (told : Option (List (List ℕ))) (layers : List LayerIndex) → All (λ layer. IsLayerIndex layer.head layer.rows) layers
    → IfSome told (λ files. AreLayersOf files layers) → AreLayersOf (lowers_from told layers) layers
layers-from None layers sound are = layers-blank layers sound
layers-from (Some files) layers sound are = are

-- what was loaded over the files that the layers are of was opened over the layers
pub opened : (old : DiskState) (told : Option (List (List ℕ))) (layers : List LayerIndex) (x : Seen) → x.parts.stack.lowers ≡ layers
    → IsLoaded old (lowers_from told layers) x → IsOpened old told x
opened old told layers x same loaded = record {
  base = loaded.base;
  starts = record {
    lowers_are = loaded.lowers_are ∙ ap (lowers_from told) (sym same);
    faults_are = loaded.faults_are;
    told = loaded.shows;
    untold = λ no. loaded.untold no ∙ ap (λ l. blank_base (lowers_from told l) (parts_view x.parts) x.faults) (sym same);
  };
  unworn = loaded.unworn;
  stands = loaded.stands;
}
