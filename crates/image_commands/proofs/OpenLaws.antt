-- An image that was opened or made over the layers of a shelf.
use Rattle.std.proofs.Common.{◌≡◌, ℕ, ◌<◌, ◌≤◌, Bool, true, false, IsTrue, List, [], ◌∷◌, length, refl, sym, ap, ◌∙◌, subst, arith, inl, inr}
use Rattle.std.specs.Prelude.{Option, IfSome}
use Rattle.block_disk.specs.DiskState.{DiskState}
use Rattle.flat_image.specs.declared.base.Base.{Base}
use Rattle.flat_image.specs.Stacks.{Legal}
use Rattle.sealed_layer.specs.Layers.{LayerIndex}
use Rattle.image_core.specs.declared.loading.LoadFault.{LoadFault}
use Rattle.image_core.specs.declared.loading.LoadFault.TheVariants as load
use Rattle.image_core.specs.declared.parts.Parts.{Parts}
use Rattle.image_core.specs.View.{AreLayersOf}
use Rattle.image_core.specs.Seen.{StandsFor}
use Rattle.image_core.specs.Seen as seen
use Rattle.image_core.specs.Loading.{AreStackOrNone, IsLoadReason}
use Rattle.image_core.specs.Opening.{lowers_from}
use Rattle.image_core.proofs.Sizes.{sound-weaker}
use Rattle.image_core.proofs.SheetsRead.{layers-length}
use Rattle.layer_commands.specs.Flattening.{AreTold}
use Rattle.image_commands.specs.Images.{DiskPort, AreStackedFiles, LiesOver, Takes}
use Rattle.image_commands.specs.ImageCauses.{IsCreate, IsPartFed, Untouched, CommandCause}
use Rattle.tool_setup.specs.declared.command.Command.{Command}
use Rattle.layer_commands.specs.declared.refusal.Refusal.{Refusal}
use Rattle.layer_commands.specs.declared.refusal.Refusal.TheVariants as refused
use Rattle.image_commands.specs.ImageTexts.{load_cause}
use Rattle.image_commands.specs.declared.refusal.ImageRefusal.{ImageRefusal}
use Rattle.image_commands.specs.declared.refusal.ImageRefusal.TheVariants.{Load, Other}
use Rattle.layer_commands.specs.Reading.{IsStackRefusal}
use Rattle.layer_commands.specs.Ports.{Ports}
use Rattle.image_commands.specs.ImageSteps.{IsOpened, OpenCause}
use Rattle.layer_commands.proofs.Pieces.{IfSome-at, IfSome-each, length_told}
use Rattle.layer_commands.proofs.ToldLayers.{layers_of, told_layers, told_heads}

pub layers-told : (files : List (List ℕ)) (layers : List LayerIndex) → AreTold files layers → AreLayersOf files layers
layers-told [] [] told = tt
layers-told [] (layer ∷ layers) told = absurd told
layers-told (file ∷ files) [] told = absurd told
layers-told (file ∷ files) (layer ∷ layers) told = (told.0, layers-told files layers told.1)

pub told-layers-of : (told : Option (List (List ℕ))) (layers : List LayerIndex) → IfSome told (λ files. AreTold files layers) → IfSome told (λ files. AreLayersOf files layers)
told-layers-of told layers are =
    IfSome-each told (λ files e. layers-told files layers (IfSome-at told (λ files. AreTold files layers) files e are))

pub stacked : (told : Option (List (List ℕ))) (count : ℕ) (layers : List LayerIndex) → length layers ≡ count → length layers ≤ 255 → IfSome told (λ files. AreTold files layers) → AreStackOrNone layers
    → AreStackedFiles told count
stacked told count layers long few are legal = (
  omega (arith, long, few),
  IfSome-each told (λ files e.
      let here : AreTold files layers = IfSome-at told (λ files. AreTold files layers) files e are in (
        layers_of files layers,
        told_layers files layers here,
        λ some. subst Legal (sym (told_heads files layers here)) (legal (omega (arith, some, length_told files layers here))),
      )),
)

-- an image stands for nothing done over a base: that lies over the layers
pub lies-over : (told : Option (List (List ℕ))) (count : ℕ) (layers : List LayerIndex) (tells : Bool) (s : DiskState) (faults : ℕ) (p : Parts) (base : Base)
    → AreStackedFiles told count → length layers ≡ count → p.stack.lowers ≡ layers → base.lowers ≡ lowers_from told layers → StandsFor (record { tells = tells; state = s; faults = faults; parts = p }) base [] → LiesOver told count base
lies-over told count layers tells s faults p base are long same lowers stands = record {
  stacked = are;
  sound = sound-weaker stands.fits.exact false base (λ e. absurd (let no : false ≡ true = e in cc)) stands.fits.sound;
  long = layers-length base.lowers p.stack.lowers stands.fits.stack.lowers_are ∙ ap length same ∙ long;
  lowers = IfSome-each told (λ files e. lowers ∙ ap (λ (o : Option (List (List ℕ))). lowers_from o layers) e);
}

pub opened : (told : Option (List (List ℕ))) (count : ℕ) (layers : List LayerIndex) (tells : Bool) (s s' : DiskState) (f f' : ℕ) (p : Parts) → f' ≡ f → AreStackedFiles told count → length layers ≡ count → p.stack.lowers ≡ layers
    → seen.IsOpened s told (record { tells = tells; state = s'; faults = f'; parts = p })
    → IsOpened told count (record { tells = tells; state = s; faults = f }) (record { tells = tells; state = s'; faults = f'; parts = p })
opened told count layers tells s s' f f' p counted are long same is = (
  is.base,
  (
    lies-over told count layers tells s' f' p is.base are long same (is.starts.lowers_are ∙ ap (lowers_from told) same) is.stands,
    record { shows = is.starts.told; unworn = is.unworn },
    is.starts.faults_are ∙ counted,
    is.stands,
  ),
)

-- it was not opened
pub load-refused : (told : Option (List (List ℕ))) (count shelf shelf_now : ℕ) (disk disk_now : DiskPort) (layers : List LayerIndex) (fault : LoadFault)
    → length layers ≡ count → length layers ≤ 255 → IfSome told (λ files. AreTold files layers) → AreStackOrNone layers → (fault ≡ load.Failed → disk.faults < disk_now.faults) → (IsTrue disk.tells → IsLoadReason disk.state.seen layers fault)
    → OpenCause told count shelf shelf_now disk disk_now (load_cause fault)
load-refused told count shelf shelf_now disk disk_now layers load.Memory long few are legal failed reason = tt
load-refused told count shelf shelf_now disk disk_now layers load.Failed long few are legal failed reason = (failed refl, stacked told count layers long few are legal)
load-refused told count shelf shelf_now disk disk_now layers fault long few are legal failed reason = (
  stacked told count layers long few are legal,
  record { layers = layers; read = told-layers-of told layers are; reason = reason; of_image = ((λ e. cc), (λ e. cc)) },
)

-- the lower layers were not read
pub lowers-refused : (told : Option (List (List ℕ))) (count shelf shelf_now : ℕ) (disk disk_now : DiskPort) → 0 < count → (refusal : Refusal) → IsStackRefusal told count refusal
    → (refusal ≡ refused.ShelfFault → shelf < shelf_now) → OpenCause told count shelf shelf_now disk disk_now (Other refusal)
lowers-refused told count shelf shelf_now disk disk_now some refused.Memory cause rose = tt
lowers-refused told count shelf shelf_now disk disk_now some refused.ShelfFault cause rose = rose refl
lowers-refused told count shelf shelf_now disk disk_now some (refused.Layer number fault) cause rose = cause
lowers-refused told count shelf shelf_now disk disk_now some (refused.Stack fault) cause rose = (omega (arith, some), cause.0, cause.1)
lowers-refused told count shelf shelf_now disk disk_now some other cause rose = absurd cause

-- the command that would have opened it is refused so
pub open-failed : (command : Command) (bytes : List ℕ) (before now : Ports) (disk disk_now : DiskPort) → (IsCreate command → ⊥) → Takes command before.left bytes → IsPartFed command before now
    → Untouched before now disk disk_now → (refusal : ImageRefusal) → OpenCause before.files before.count before.shelf_faults now.shelf_faults disk disk_now refusal
    → CommandCause command before now disk disk_now refusal
open-failed command bytes before now disk disk_now other takes part same (Other refused.Memory) cause = (part, inl same)
open-failed command bytes before now disk disk_now other takes part same (Other refused.DiskFault) (rose, are) =
    record { rose = rose; fed = (bytes, takes); stacked = are; size = λ asked is. absurd (other (asked, is)); silent = inr same.sink; stands = inl same }
open-failed command bytes before now disk disk_now other takes part same (Other refused.ShelfFault) cause = (cause, (bytes, takes), inl same)
open-failed command bytes before now disk disk_now other takes part same (Other (refused.Layer number fault)) cause = ((bytes, takes), cause, same)
open-failed command bytes before now disk disk_now other takes part same (Other (refused.Stack fault)) cause = ((bytes, takes), cause.0, cause.1, cause.2, same)
open-failed command bytes before now disk disk_now other takes part same (Other refusal) cause = absurd cause
open-failed command bytes before now disk disk_now other takes part same (Load fault) cause = (other, (bytes, takes), cause.0, cause.1, same)
