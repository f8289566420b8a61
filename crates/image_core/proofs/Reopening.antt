-- Files that show an image are loaded as that image.
use Rattle.std.proofs.Common.{◌≡◌, ◌≢◌, ◌⊎◌, ℕ, zero, suc, ◌+◌, ◌^◌, ◌<◌, ◌≤◌, inl, inr, Bool, List, [], ◌∷◌, ◌++◌, length, map, get_or, refl, sym, ap, ◌∙◌, subst, arith, length-append}
use Rattle.std.specs.Prelude.{All, Contains, Option, Some, None, IfSome, slice_get}
use Rattle.std.proofs.lemmas.List.{length-map, map-append}
use Rattle.std.proofs.lemmas.List.Elements.{All-nil, All-cons, All-head, All-tail, All-get_or}
use Rattle.std.proofs.lemmas.Option.{slice_get_within, get_or_from_slice_get}
use Rattle.block_disk.specs.DiskState.{DiskState, Files}
use Rattle.lsmt_header.specs.declared.head.Head.{Head}
use Rattle.lsmt_header.specs.Blocks.{nil}
use Rattle.sealed_layer.specs.Layers.{LayerIndex}
use Rattle.sealed_layer.specs.LayerFaults.{IsLayerFault}
use Rattle.sealed_layer.specs.declared.fault.LayerFault.{LayerFault}
use Rattle.sealed_layer.proofs.LayerUnique.{one_layer, no_layer_fault}
use Rattle.layer_stack.specs.declared.fault.StackFault.{StackFault}
use Rattle.layer_stack.specs.declared.fault.StackFault.TheVariants.{Empty, TooMany, SizeDiffers, ParentDiffers, UuidTwice}
use Rattle.layer_stack.proofs.StackLemmas.{fault_not_legal}
use Rattle.flat_image.specs.declared.base.Base.{Base}
use Rattle.flat_image.specs.Frozen.{Frozen}
use Rattle.flat_image.specs.LayerFiles.{AreHeadsOf}
use Rattle.flat_image.specs.LayerReading.{uuid_in}
use Rattle.flat_image.specs.Base.{pending_of, IsLayerFile}
use Rattle.flat_image.specs.Left.{Stand, stand}
use Rattle.top_writer.specs.Files.{stored_in, asked_of, IsSizeFor}
use Rattle.top_writer.specs.Showing.{ShowsTop}
use Rattle.flat_image.specs.Stacks.{Legal}
use Rattle.top_writer.specs.declared.fault.TopReason.{TopReason}
use Rattle.top_writer.specs.Reasons.{IsReason}
use Rattle.top_writer.proofs.OneStand.{no_reason}
use Rattle.image_core.specs.declared.loading.LoadFault.{LoadFault}
use Rattle.image_core.specs.declared.loading.LoadFault.TheVariants as why
use Rattle.image_core.specs.Numbers.{manifest_file, sealed_file, with_pending}
use Rattle.image_core.specs.Manifest.{Names, count_said, epoch_said, uuid_said, size_said, exact_said, uuid_or_nil}
use Rattle.image_core.specs.Shows.{epoch_of, HaveSize, heads_asked, ShowsStand, ShowsFrozen, IsFrozenUnworn, Shows, IsUnworn}
use Rattle.image_core.specs.View.{AreLayersOf, sealed_read}
use Rattle.image_core.specs.Seen.{Seen, StandsFor}
use Rattle.image_core.specs.Loading.{heads_in, heads_over, IsImageBody, HasManifest, HasSealed, IsOwnFault, IsUuidOf, IsTopReason, Reopens, ReopensAs}
use Rattle.image_core.proofs.FrozenTops.{layers-append, same-uuids}
use Rattle.image_core.proofs.LoadedParts.{parent-same}
use Rattle.image_core.proofs.SheetsRead.{sealed-read, layers-length}
use Rattle.image_core.proofs.ShownBase.{shows-a_base, shows-one_base}
use Rattle.image_core.proofs.StackMore.{heads-length}
use Rattle.image_core.proofs.TopShown.{one-body}

-- the heads of files are those of their layers
pub same-heads : (files : List (List ℕ)) (heads : List Head) (layers : List LayerIndex) → AreHeadsOf files heads → AreLayersOf files layers → heads ≡ heads_in layers
same-heads [] [] [] are of = refl
same-heads [] [] (layer ∷ layers) are of = absurd of
same-heads [] (head ∷ heads) layers are of = absurd are
same-heads (file ∷ files) [] layers are of = absurd are
same-heads (file ∷ files) (head ∷ heads) [] are of = absurd of
same-heads (file ∷ files) (head ∷ heads) (layer ∷ layers) are of =
    let here : head ≡ layer.head = (one_layer file head layer.head are.0.layer.rows layer.rows are.0.layer.layer of.0).0 in
    let others = same-heads files heads layers are.1 of.1 in
    λ i. here i ∷ others i

-- what holds of all of two lists holds of each of them
all-front : {X : Type 0} (P : X → Type 0) (xs ys : List X) → All P (xs ++ ys) → All P xs
all-front P [] ys all = All-nil P
all-front P (x ∷ xs) ys all = All-cons P x xs (All-head P x (xs ++ ys) all) (all-front P xs ys (All-tail P x (xs ++ ys) all))

all-rest : {X : Type 0} (P : X → Type 0) (xs ys : List X) → All P (xs ++ ys) → All P ys
all-rest P [] ys all = all
all-rest P (x ∷ xs) ys all = all-rest P xs ys (All-tail P x (xs ++ ys) all)

-- the lower layers of a stack have its sizes
lowers-size : (exact : Bool) (n : ℕ) (files more : List (List ℕ)) (heads : List Head) (layers : List LayerIndex) → AreHeadsOf (files ++ more) heads → AreLayersOf files layers
    → HaveSize exact n heads → HaveSize exact n (heads_in layers)
lowers-size exact n [] more heads [] of are sizes = All-nil (λ (h : Head). IsSizeFor exact n h.sectors)
lowers-size exact n [] more heads (layer ∷ layers) of are sizes = absurd are
lowers-size exact n (file ∷ files) more heads [] of are sizes = absurd are
lowers-size exact n (file ∷ files) more [] (layer ∷ layers) of are sizes = absurd of
lowers-size exact n (file ∷ files) more (head ∷ heads) (layer ∷ layers) of are sizes =
    let Size : Head → Type 0 = λ h. IsSizeFor exact n h.sectors in
    let here : head ≡ layer.head = (one_layer file head layer.head of.0.layer.rows layer.rows of.0.layer.layer are.0).0 in
    All-cons Size layer.head (heads_in layers) (subst Size here (All-head Size head heads sizes))
    (lowers-size exact n files more heads layers of.1 are.1 (All-tail Size head heads sizes))

-- a layer whose uuid is that of some head is among the uuids
has-uuid : (layers : List LayerIndex) (first : ℕ) (other : Head) (uuid : List ℕ) → slice_get (heads_in layers) first ≡ Some other → other.uuid ≡ uuid
    → Contains (map (λ (l : LayerIndex). l.head.uuid) layers) uuid
has-uuid [] first other uuid at is = absurd (let no : None ≡ Some other = at in cc)
has-uuid (layer ∷ layers) zero other uuid at is = (zero, omega arith, let same : layer.head ≡ other = cc in ap (λ (h : Head). h.uuid) same ∙ is)
has-uuid (layer ∷ layers) (suc first) other uuid at is = let rest = has-uuid layers first other uuid at is in (suc rest.0, omega (arith, rest.1), rest.2)

abbrev sequence_or : Option (ℕ × List ℕ) → ℕ
sequence_or None = 0
sequence_or (Some held) = held.0

-- what is said of a frozen top that is shown
frozen-fine : (exact : Bool) (epoch n : ℕ) (lowers : List (List ℕ)) (layers : List LayerIndex) (frozen : Option Frozen) (files : Files) (said : List ℕ) (shown : ShowsFrozen exact epoch n lowers frozen files)
    → IsFrozenUnworn exact epoch n lowers frozen files shown → AreLayersOf lowers layers → said ≡ uuid_or_nil (pending_of frozen) → said ≢ nil → (reason : TopReason)
    → IsReason n (heads_over exact epoch layers) (stored_in epoch files) reason → ⊥
frozen-fine exact epoch n lowers layers None files said shown low are names some reason bad = absurd (some names)
frozen-fine exact epoch n lowers layers (Some f) files said shown low are names some reason bad =
    no_reason n (heads_asked exact epoch lowers) (record { cells = f.sheet; rows = shown.rows; filled = shown.filled }) (stored_in epoch files) shown.shows low reason
    (subst (λ (p : Option (List ℕ)). IsReason n (asked_of exact p) (stored_in epoch files) reason) (parent-same epoch lowers layers are) bad)

-- a uuid in progress that is said is that one
some-uuid : (said : List ℕ) (pending : Option (List ℕ)) (uuids : List (List ℕ)) → said ≡ uuid_or_nil pending → said ≢ nil → IfSome pending (λ u. Contains uuids u → ⊥) → Contains uuids said → ⊥
some-uuid said None uuids names some unlike among = some names
some-uuid said (Some uuid) uuids names some unlike among = unlike (subst (Contains uuids) names among)

module _ (files : Files) (b : Base) (layers : List LayerIndex) (shows : Shows files b) (low : IsUnworn files b shows) (are : AreLayersOf b.lowers layers) where
  body-is : (body : List ℕ) → HasManifest files body → body ≡ shows.body
  body-is body manifest = one-body (files manifest_file) manifest.sequence shows.sequence body shows.body manifest.shows shows.manifest

  names-of : (body : List ℕ) → HasManifest files body → Names body (length b.done) (pending_of b.frozen) b.sectors
  names-of body manifest = subst (λ (x : List ℕ). Names x (length b.done) (pending_of b.frozen) b.sectors) (sym (body-is body manifest)) shows.names

  exact-of : (body : List ℕ) → HasManifest files body → exact_said body ≡ exact_said shows.body
  exact-of body manifest = ap exact_said (body-is body manifest)

  image : (body : List ℕ) → HasManifest files body → IsImageBody (length layers) body
  image body manifest = (
    length b.done,
    pending_of b.frozen,
    b.sectors,
    record {
      names = names-of body manifest;
      size = shows.sound.size;
      few = subst (λ (k : ℕ). with_pending (k + length b.done) (pending_of b.frozen) ≤ 255) (layers-length b.lowers layers are) shows.sound.few;
    },
  )

  -- sizes, as the manifest says them
  said-sizes : (body : List ℕ) → HasManifest files body → (heads : List Head) → HaveSize (exact_said shows.body) b.sectors heads → HaveSize (exact_said body) (size_said body) heads
  said-sizes body manifest heads sizes =
      subst (λ (e : Bool). HaveSize e (size_said body) heads) (sym (exact-of body manifest))
      (subst (λ (n : ℕ). HaveSize (exact_said shows.body) n heads) (sym (names-of body manifest).size) sizes)

  -- all sealed files that were read
  module _ (body : List ℕ) (manifest : HasManifest files body) (sealed : List LayerIndex) (number : length sealed ≡ count_said body) (of : AreLayersOf (sealed_read files (length sealed)) sealed) where
    sealed-are : AreLayersOf b.done sealed
    sealed-are = subst (λ (l : List (List ℕ)). AreLayersOf l sealed) (sealed-read files b.done (length sealed) (sym (number ∙ (names-of body manifest).count)) shows.done) of

    all-are : AreLayersOf (b.lowers ++ b.done) (layers ++ sealed)
    all-are = layers-append b.lowers b.done layers sealed are sealed-are

    heads-are : shows.sound.stack.heads ≡ heads_in (layers ++ sealed)
    heads-are = same-heads (b.lowers ++ b.done) shows.sound.stack.heads (layers ++ sealed) shows.sound.stack.are all-are

    legal : 1 ≤ length (layers ++ sealed) → Legal (heads_in (layers ++ sealed))
    legal some = subst Legal heads-are (shows.sound.stack.legal (omega (arith, some, layers-length (b.lowers ++ b.done) (layers ++ sealed) all-are)))

    sealed-sizes : HaveSize (exact_said body) (size_said body) (heads_in sealed)
    sealed-sizes =
        said-sizes body manifest (heads_in sealed)
        (all-rest (λ (h : Head). IsSizeFor (exact_said shows.body) b.sectors h.sectors) (heads_in layers) (heads_in sealed)
        (subst (HaveSize (exact_said shows.body) b.sectors) (heads-are ∙ map-append (λ (l : LayerIndex). l.head) layers sealed) shows.sound.stack.sizes))

    no-twice : uuid_said body ≢ nil → (fault : StackFault) → IsUuidOf (heads_in (layers ++ sealed)) (uuid_said body) fault → ⊥
    no-twice some Empty bad = absurd bad
    no-twice some (TooMany count) bad = absurd bad
    no-twice some (SizeDiffers at) bad = absurd bad
    no-twice some (ParentDiffers at) bad = absurd bad
    no-twice some (UuidTwice first at) bad =
        some-uuid (uuid_said body) (pending_of b.frozen) (map uuid_in (b.lowers ++ b.done)) (names-of body manifest).uuid some shows.sound.unlike
        (subst (λ (l : List (List ℕ)). Contains l (uuid_said body)) (same-uuids (b.lowers ++ b.done) (layers ++ sealed) all-are)
        (has-uuid (layers ++ sealed) first bad.1.0 (uuid_said body) bad.1.1 bad.1.2))

  -- the sealed files are those of layers
  no-sealed : (epoch : ℕ) (fault : LayerFault) → epoch < length b.done → IsOwnFault fault → IsLayerFault (files (sealed_file epoch)) fault → ⊥
  no-sealed epoch fault below own bad =
      let all : All IsLayerFile b.done = all-rest IsLayerFile b.lowers b.done (shows-a_base files b shows).0.layers in
      let is : IsLayerFile (get_or b.done epoch []) = All-get_or IsLayerFile b.done epoch [] below all in
      elim (no_layer_fault (get_or b.done epoch []) is.0 is.1.layer.rows fault is.1.layer.layer (subst (λ (f : List ℕ). IsLayerFault f fault) (shows.done epoch below) bad)) [
        | inl failed ↦ own.not_disk failed
        | inr memory ↦ own.not_memory memory
      ]

  -- and the tops are shown
  no-frozen : (body : List ℕ) → HasManifest files body → (epoch : ℕ) (reason : TopReason) → uuid_said body ≢ nil → epoch ≡ count_said body → IsTopReason files layers body epoch reason → ⊥
  no-frozen body manifest epoch reason some is bad =
      let names = names-of body manifest in
      frozen-fine (exact_said shows.body) (length b.done) b.sectors b.lowers layers b.frozen files (uuid_said body) shows.frozen low.frozen are names.uuid some reason
      (subst (λ (k : ℕ). IsReason b.sectors (heads_over (exact_said shows.body) k layers) (stored_in k files) reason) (is ∙ names.count)
      (subst (λ (e : Bool). IsReason b.sectors (heads_over e epoch layers) (stored_in epoch files) reason) (exact-of body manifest)
      (subst (λ (n : ℕ). IsReason n (heads_over (exact_said body) epoch layers) (stored_in epoch files) reason) names.size bad)))

  no-top : (body : List ℕ) → HasManifest files body → (epoch : ℕ) (reason : TopReason) → epoch ≡ epoch_said body → IsTopReason files layers body epoch reason → ⊥
  no-top body manifest epoch reason is bad =
      let names = names-of body manifest in
      no_reason b.sectors (heads_asked (exact_said shows.body) (epoch_of b) b.lowers) (stand b) (stored_in (epoch_of b) files) shows.top low.top reason
      (subst (λ (p : Option (List ℕ)). IsReason b.sectors (asked_of (exact_said shows.body) p) (stored_in (epoch_of b) files) reason) (parent-same (epoch_of b) b.lowers layers are)
      (subst (λ (k : ℕ). IsReason b.sectors (heads_over (exact_said shows.body) k layers) (stored_in k files) reason) (is ∙ names.epoch)
      (subst (λ (e : Bool). IsReason b.sectors (heads_over e epoch layers) (stored_in epoch files) reason) (exact-of body manifest)
      (subst (λ (n : ℕ). IsReason n (heads_over (exact_said body) epoch layers) (stored_in epoch files) reason) names.size bad))))

pub reopens : (files : Files) (b : Base) (layers : List LayerIndex) (fault : LoadFault) → Reopens files b layers fault
reopens files b layers why.Memory shows low are bad = inl refl
reopens files b layers why.Failed shows low are bad = inr refl
reopens files b layers why.NoImage shows low are bad = absurd (let e : Some (shows.sequence, shows.body) ≡ None = sym shows.manifest ∙ bad in cc)
reopens files b layers (why.ManifestWorn sequence) shows low are bad =
    let same : sequence ≡ shows.sequence = ap sequence_or (sym bad.0.1 ∙ shows.manifest) in absurd (omega (arith, same, bad.1, low.manifest))
reopens files b layers why.ManifestBad shows low are bad = absurd (bad.2 (image files b layers shows low are bad.0 bad.1))
reopens files b layers why.SizeDiffers shows low are (body, inl bad) =
    absurd (bad.2 (said-sizes files b layers shows low are body bad.0 (heads_in layers)
    (lowers-size (exact_said shows.body) b.sectors b.lowers b.done shows.sound.stack.heads layers shows.sound.stack.are are shows.sound.stack.sizes)))
reopens files b layers why.SizeDiffers shows low are (body, inr (sealed, stack, not)) =
    absurd (not (sealed-sizes files b layers shows low are body stack.found.lowers.manifest sealed stack.all stack.found.are))
reopens files b layers (why.Sealed epoch fault) shows low are (body, lowers, bad) =
    absurd (no-sealed files b layers shows low are epoch fault (omega (arith, bad.more, (names-of files b layers shows low are body lowers.manifest).count)) bad.own bad.is)
reopens files b layers (why.Stack fault) shows low are (body, sealed, inl (found, number, some, bad)) =
    absurd (fault_not_legal (heads_in (layers ++ sealed)) fault bad (legal files b layers shows low are body found.lowers.manifest sealed number found.are some))
reopens files b layers (why.Stack fault) shows low are (body, sealed, inr (found, some, bad)) =
    let stack = found.found in
    absurd (no-twice files b layers shows low are body stack.found.lowers.manifest sealed stack.all stack.found.are some fault bad)
reopens files b layers (why.NoTop epoch reason) shows low are (body, sealed, found, inl (some, is, bad)) =
    absurd (no-frozen files b layers shows low are body found.found.found.found.lowers.manifest epoch reason some is bad)
reopens files b layers (why.NoTop epoch reason) shows low are (body, sealed, found, inr (fine, is, bad)) =
    absurd (no-top files b layers shows low are body found.found.found.found.lowers.manifest epoch reason is bad)

pub reopens-as : (old : DiskState) (x : Seen) (b : Base) → ReopensAs old x b
reopens-as old x b loaded told shows =
    let other : Base = record b { faults = x.faults } in
    let again : Shows old.seen other = record {
      sequence = shows.sequence;
      body = shows.body;
      manifest = shows.manifest;
      names = shows.names;
      sound = record { size = shows.sound.size; few = shows.sound.few; stack = shows.sound.stack; unlike = shows.sound.unlike };
      done = shows.done;
      frozen = shows.frozen;
      top = shows.top;
    } in
    subst (λ c. StandsFor x c []) (shows-one_base old.seen loaded.base other (loaded.shows told) again loaded.lowers_are loaded.faults_are) loaded.stands
