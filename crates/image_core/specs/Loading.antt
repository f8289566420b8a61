-- Why files are no image over lower layers: the first of these, in the order in which they are looked at.
use Rattle.std.specs.Prelude.{◌≡◌, ◌≢◌, ℕ, zero, suc, ◌+◌, ◌^◌, ◌<◌, ◌≤◌, Bool, List, [], ◌++◌, length, map, Contains, Option, Some, None, slice_get, ◌⊎◌, IsTrue, ⊤}
use Rattle.block_disk.specs.DiskState.{DiskState, Files}
use Rattle.gate_mark.specs.MarkFile as marks
use Rattle.lsmt_header.specs.declared.head.Head.{Head}
use Rattle.lsmt_header.specs.Blocks.{IsSize, nil}
use Rattle.sealed_layer.specs.Layers.{LayerIndex}
use Rattle.sealed_layer.specs.LayerFaults.{IsLayerFault}
use Rattle.sealed_layer.specs.declared.fault.LayerFault.{LayerFault}
use Rattle.sealed_layer.specs.declared.fault.LayerFault.TheVariants as layer_fault
use Rattle.flat_image.specs.Stacks.{uppermost, Legal}
use Rattle.layer_stack.specs.Faults.{IsStackFault}
use Rattle.layer_stack.specs.declared.fault.StackFault.{StackFault}
use Rattle.layer_stack.specs.declared.fault.StackFault.TheVariants.{Empty, TooMany, SizeDiffers, ParentDiffers, UuidTwice}
use Rattle.flat_image.specs.Left.{Stand}
use Rattle.top_writer.specs.Files.{stored_in, HeadsAsked, asked_of}
use Rattle.top_writer.specs.Reasons.{IsReason}
use Rattle.top_writer.specs.Showing.{ShowsTop}
use Rattle.top_writer.specs.declared.fault.TopReason.{TopReason}
use Rattle.image_core.specs.declared.loading.LoadFault.{LoadFault}
use Rattle.image_core.specs.declared.loading.LoadFault.TheVariants as why
use Rattle.flat_image.specs.declared.base.Base.{Base}
use Rattle.image_core.specs.Shows.{HaveSize, Shows, IsUnworn}
use Rattle.image_core.specs.View.{AreLayersOf, sealed_read}
use Rattle.image_core.specs.Seen.{Seen, StandsFor, IsLoaded}
use Rattle.image_core.specs.Numbers.{manifest_file, sealed_file, with_pending}
use Rattle.image_core.specs.Manifest.{count_said, epoch_said, uuid_said, size_said, exact_said, Names}

-- the heads of layers, and the uuid of the uppermost
abbrev pub heads_in : List LayerIndex → List Head
heads_in layers = map (λ l. l.head) layers

abbrev pub upper_uuid : List LayerIndex → List ℕ
upper_uuid layers = uppermost nil (map (λ l. l.head.uuid) layers)

-- the sectors of the uppermost layer, or n where there is none
abbrev pub upper_size : ℕ → List LayerIndex → ℕ
upper_size n layers = uppermost n (map (λ l. l.head.sectors) layers)

-- what the head of a top has to say of an image of n sectors, or of as many; the first top also names the uppermost layer
abbrev pub parent_over : ℕ → List LayerIndex → Option (List ℕ)
parent_over zero layers = Some (upper_uuid layers)
parent_over (suc epoch) layers = None

abbrev pub heads_over : Bool → ℕ → List LayerIndex → HeadsAsked
heads_over exact epoch layers = asked_of exact (parent_over epoch layers)

-- the body of a manifest names an image over so many lower layers, of no more than 255 with those that are committed and
-- the one in progress
pub record NamesOver (lowers : ℕ) (body : List ℕ) (done : ℕ) (pending : Option (List ℕ)) (n : ℕ) : Type 0 where
  pub names : Names body done pending n
  pub size : IsSize n
  pub few : with_pending (lowers + done) pending ≤ 255

-- and so of some image
abbrev pub IsImageBody : ℕ → List ℕ → Type 0
IsImageBody lowers body = (done : ℕ) × (pending : Option (List ℕ)) × (n : ℕ) × NamesOver lowers body done pending n

-- the manifest holds this body, and is not worn
pub record HasManifest (files : Files) (body : List ℕ) : Type 0 where
  pub sequence : ℕ
  pub shows : marks.Shows sequence body (files manifest_file)
  pub low : sequence ≤ 2 ^ 61

-- they form a stack, or there are none
abbrev pub AreStackOrNone : List LayerIndex → Type 0
AreStackOrNone layers = 1 ≤ length layers → Legal (heads_in layers)

-- The manifest is that of an image over the layers, and these have sectors for it.
pub record HasLowers (files : Files) (layers : List LayerIndex) (body : List ℕ) : Type 0 where
  pub manifest : HasManifest files body
  pub image : IsImageBody (length layers) body
  pub sizes : HaveSize (exact_said body) (size_said body) (heads_in layers)

-- And the sealed files of its first epochs are those of these layers,
pub record HasSealed (files : Files) (layers : List LayerIndex) (body : List ℕ) (sealed : List LayerIndex) : Type 0 where
  pub lowers : HasLowers files layers body
  pub are : AreLayersOf (sealed_read files (length sealed)) sealed

-- of all its epochs, which with the lower layers form a stack,
pub record HasStack (files : Files) (layers : List LayerIndex) (body : List ℕ) (sealed : List LayerIndex) : Type 0 where
  pub found : HasSealed files layers body sealed
  pub all : length sealed ≡ count_said body
  pub stack : AreStackOrNone (layers ++ sealed)

-- and have sectors for the image too;
pub record HasLayers (files : Files) (layers : List LayerIndex) (body : List ℕ) (sealed : List LayerIndex) : Type 0 where
  pub found : HasStack files layers body sealed
  pub sizes : HaveSize (exact_said body) (size_said body) (heads_in sealed)

-- and none of all layers has the uuid of the commit in progress.
pub record HasOtherUuids (files : Files) (layers : List LayerIndex) (body : List ℕ) (sealed : List LayerIndex) : Type 0 where
  pub found : HasLayers files layers body sealed
  pub unlike : uuid_said body ≢ nil → Contains (map (λ l. l.head.uuid) (layers ++ sealed)) (uuid_said body) → ⊥

-- the fault is the file's own: not the disk's, and not want of memory
pub record IsOwnFault (fault : LayerFault) : Type 0 where
  pub not_disk : fault ≢ layer_fault.Failed
  pub not_memory : fault ≢ layer_fault.Memory

-- the sealed file of the epoch is the first, of so many, that is no layer's, with this fault
pub record IsSealedReason (files : Files) (count epoch : ℕ) (fault : LayerFault) : Type 0 where
  pub before : List LayerIndex
  pub number : length before ≡ epoch
  pub are : AreLayersOf (sealed_read files epoch) before
  pub more : epoch < count
  pub own : IsOwnFault fault
  pub is : IsLayerFault (files (sealed_file epoch)) fault

-- the fault says which of the heads has the uuid, and how many these are
abbrev pub IsUuidOf : List Head → List ℕ → StackFault → Type 0
IsUuidOf heads uuid (UuidTwice first number) = (number ≡ length heads) × ((other : Head) × (slice_get heads first ≡ Some other) × (other.uuid ≡ uuid))
IsUuidOf heads uuid Empty = ⊥
IsUuidOf heads uuid (TooMany count) = ⊥
IsUuidOf heads uuid (SizeDiffers number) = ⊥
IsUuidOf heads uuid (ParentDiffers number) = ⊥

-- the files of the epoch are no top, over the layers, of an image whose manifest has this body, for this reason; or they are one
abbrev pub IsTopReason : Files → List LayerIndex → List ℕ → ℕ → TopReason → Type 0
IsTopReason files layers body epoch reason = IsReason (size_said body) (heads_over (exact_said body) epoch layers) (stored_in epoch files) reason

abbrev pub ShowsSomeTop : Files → List LayerIndex → List ℕ → ℕ → Type 0
ShowsSomeTop files layers body epoch = (s : Stand) × ShowsTop (size_said body) (heads_over (exact_said body) epoch layers) s (stored_in epoch files)

-- why layers, lower and sealed, are refused
abbrev pub IsLayersReason : Files → List LayerIndex → List ℕ → List LayerIndex → StackFault → Type 0
IsLayersReason files layers body sealed fault =
    (HasSealed files layers body sealed × (length sealed ≡ count_said body) × (1 ≤ length (layers ++ sealed)) × IsStackFault (heads_in (layers ++ sealed)) fault)
    ⊎ (HasLayers files layers body sealed × (uuid_said body ≢ nil) × IsUuidOf (heads_in (layers ++ sealed)) (uuid_said body) fault)

-- why layers are refused for their sectors: the lower ones, or those that were sealed
abbrev pub IsSizesReason : Files → List LayerIndex → List ℕ → Type 0
IsSizesReason files layers body =
    (HasManifest files body × IsImageBody (length layers) body × ¬ HaveSize (exact_said body) (size_said body) (heads_in layers))
    ⊎ ((sealed : List LayerIndex) × HasStack files layers body sealed × ¬ HaveSize (exact_said body) (size_said body) (heads_in sealed))

-- why a top is refused: the frozen one, where there is one, or the current one
abbrev pub IsTopsReason : Files → List LayerIndex → List ℕ → ℕ → TopReason → Type 0
IsTopsReason files layers body epoch reason =
    ((uuid_said body ≢ nil) × (epoch ≡ count_said body) × IsTopReason files layers body epoch reason)
    ⊎ ((uuid_said body ≢ nil → ShowsSomeTop files layers body (count_said body)) × (epoch ≡ epoch_said body) × IsTopReason files layers body epoch reason)

-- the files are no image over the layers for this reason; of a disk's fault and want of memory nothing is said
abbrev pub IsLoadReason : Files → List LayerIndex → LoadFault → Type 0
IsLoadReason files layers why.Memory = ⊤
IsLoadReason files layers why.Failed = ⊤
IsLoadReason files layers why.NoImage = marks.mark_of (files manifest_file) ≡ None
IsLoadReason files layers (why.ManifestWorn sequence) = ((body : List ℕ) × marks.Shows sequence body (files manifest_file)) × (2 ^ 61 < sequence)
IsLoadReason files layers why.ManifestBad = (body : List ℕ) × HasManifest files body × ¬ IsImageBody (length layers) body
IsLoadReason files layers why.SizeDiffers = (body : List ℕ) × IsSizesReason files layers body
IsLoadReason files layers (why.Sealed epoch fault) = (body : List ℕ) × HasLowers files layers body × IsSealedReason files (count_said body) epoch fault
IsLoadReason files layers (why.Stack fault) = (body : List ℕ) × (sealed : List LayerIndex) × IsLayersReason files layers body sealed fault
IsLoadReason files layers (why.NoTop epoch reason) =
    (body : List ℕ) × (sealed : List LayerIndex) × HasOtherUuids files layers body sealed × IsTopsReason files layers body epoch reason

-- over the same lower layers no reason but want of memory and the disk's fault refuses files that show an image, where no
-- sequence is over 2^61
abbrev pub Reopens : Files → Base → List LayerIndex → LoadFault → Type 0
Reopens files b layers fault = (shows : Shows files b) → IsUnworn files b shows → AreLayersOf b.lowers layers
    → IsLoadReason files layers fault → (fault ≡ why.Memory) ⊎ (fault ≡ why.Failed)

-- and an image that is loaded of them stands for that one
abbrev pub ReopensAs : DiskState → Seen → Base → Type 0
ReopensAs old image b = IsLoaded old b.lowers image → IsTrue image.tells → Shows old.seen b
    → StandsFor image (record b { faults = image.faults }) []
