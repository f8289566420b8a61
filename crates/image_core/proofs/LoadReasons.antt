-- Why files are no image, as a load finds it step by step.
use Rattle.std.proofs.Common.{◌≡◌, ◌≢◌, ◌⊎◌, ℕ, ◌+◌, ◌^◌, ◌<◌, ◌≤◌, inl, inr, Bool, IsTrue, List, [], ◌∷◌, ◌++◌, length, map, refl, sym, ap, ◌∙◌, subst, arith}
use Rattle.std.specs.Prelude.{Contains, Option, Some, None, IfSome}
use Rattle.block_disk.specs.DiskState.{DiskState, Files}
use Rattle.block_disk.specs.Claims.{Quiet}
use Rattle.gate_mark.specs.declared.mark.Mark.{Mark}
use Rattle.gate_mark.specs.Mark.{body_in}
use Rattle.lsmt_header.specs.Blocks.{nil}
use Rattle.sealed_layer.specs.Layers.{LayerIndex}
use Rattle.layer_stack.specs.declared.fault.StackFault.{StackFault}
use Rattle.top_writer.specs.declared.fault.TopReason.{TopReason}
use Rattle.top_writer.specs.Files.{asked_of, stored_in}
use Rattle.top_writer.specs.Reasons.{IsReason}
use Rattle.top_writer.specs.Showing.{ShowsTop}
use Rattle.flat_image.specs.Frozen.{Frozen}
use Rattle.flat_image.specs.Base.{pending_of}
use Rattle.flat_image.specs.Left.{Stand}
use Rattle.image_core.specs.Parts.{frozen_stand}
use Rattle.image_core.specs.declared.loading.LoadFault.{LoadFault}
use Rattle.image_core.specs.declared.loading.LoadFault.TheVariants as why
use Rattle.image_core.specs.declared.loading.Named.{Named}
use Rattle.image_core.specs.Numbers.{with_pending}
use Rattle.image_core.specs.Manifest.{count_said, epoch_said, uuid_said, size_said, exact_said, uuid_or_nil}
use Rattle.image_core.specs.Shows.{HaveSize}
use Rattle.image_core.specs.View.{AreLayersOf, sealed_read}
use Rattle.image_core.specs.Loading.{heads_in, heads_over, AreStackOrNone, HasManifest, HasLowers, HasSealed, HasStack, HasLayers, HasOtherUuids, IsSealedReason, IsUuidOf, ShowsSomeTop, IsTopReason, IsLoadReason}
use Rattle.image_core.specs.Found.{IsNamedBy, IsManifest, AreRead, StopsSealed, HaveOtherUuid, AreSound, IsUnsound, IsTopRefused, IsFrozenRead, IsFrozenRefused, IsCurrentRefused, IsPartsReason}
use Rattle.image_core.proofs.LoadedParts.{seen-same}

-- the uuid of a commit in progress, as the manifest says it
said-uuid : (said uuid : List ℕ) (pending : Option (List ℕ)) → said ≡ uuid_or_nil pending → pending ≡ Some uuid → said ≡ uuid
said-uuid said uuid pending names is = names ∙ ap uuid_or_nil is

said-some : (said uuid : List ℕ) (pending : Option (List ℕ)) → said ≡ uuid_or_nil pending → IfSome pending (λ u. u ≢ nil) → pending ≡ Some uuid → said ≢ nil
said-some said uuid pending names named is =
    λ none. (subst (λ (p : Option (List ℕ)). IfSome p (λ u. u ≢ nil)) is named) (sym (said-uuid said uuid pending names is) ∙ none)

other-uuid : (said : List ℕ) (layers : List LayerIndex) (pending : Option (List ℕ)) → said ≡ uuid_or_nil pending → HaveOtherUuid layers pending
    → said ≢ nil → Contains (map (λ (l : LayerIndex). l.head.uuid) layers) said → ⊥
other-uuid said layers None names unlike some among = some names
other-uuid said layers (Some uuid) names unlike some among = unlike (subst (Contains (map (λ (l : LayerIndex). l.head.uuid) layers)) names among)

frozen-some : (exact : Bool) (epoch n : ℕ) (layers : List LayerIndex) (frozen : Option Frozen) (files : Files) (said : List ℕ) → said ≡ uuid_or_nil (pending_of frozen) → said ≢ nil
    → IsFrozenRead exact epoch n layers frozen files → (s : Stand) × ShowsTop n (heads_over exact epoch layers) s (stored_in epoch files)
frozen-some exact epoch n layers None files said names some read = absurd (some names)
frozen-some exact epoch n layers (Some f) files said names some read = (frozen_stand f read.0 read.1, read.2)

-- the manifest was read
module _ (tells : Bool) (old one : DiskState) (layers : List LayerIndex) (mark : Mark) (named : Named) (first : Quiet old one) (m : IsManifest tells old one layers mark named) (told : IsTrue tells) where
  abbrev body : List ℕ
  body = body_in mark

  exact-is : named.exact ≡ exact_said body
  exact-is = m.named_by.exact

  size-is : named.sectors ≡ size_said body
  size-is = sym m.named_by.names.names.size

  count-is : named.count ≡ count_said body
  count-is = sym m.named_by.names.names.count

  said-sizes : (others : List LayerIndex) → HaveSize named.exact named.sectors (heads_in others) → HaveSize (exact_said body) (size_said body) (heads_in others)
  said-sizes others sizes = subst (λ (e : Bool). HaveSize e (size_said body) (heads_in others)) exact-is (subst (λ (n : ℕ). HaveSize named.exact n (heads_in others)) size-is sizes)

  own-sizes : (others : List LayerIndex) → HaveSize (exact_said body) (size_said body) (heads_in others) → HaveSize named.exact named.sectors (heads_in others)
  own-sizes others sizes =
      subst (λ (e : Bool). HaveSize e named.sectors (heads_in others)) (sym exact-is) (subst (λ (n : ℕ). HaveSize (exact_said body) n (heads_in others)) (sym size-is) sizes)

  has-lowers : HasLowers old.seen layers body
  has-lowers = record { manifest = m.shows told; image = (named.count, named.pending, named.sectors, m.named_by.names); sizes = said-sizes layers m.sizes }

  -- reading the sealed files stopped
  pub sealed-reason : (fault : LoadFault) → StopsSealed one.seen named.count fault → IsLoadReason old.seen layers fault
  sealed-reason why.Memory stops = tt
  sealed-reason why.Failed stops = tt
  sealed-reason why.NoImage stops = absurd stops
  sealed-reason (why.ManifestWorn sequence) stops = absurd stops
  sealed-reason why.ManifestBad stops = absurd stops
  sealed-reason why.SizeDiffers stops = absurd stops
  sealed-reason (why.Sealed epoch fault) stops =
      (body, has-lowers, subst (λ (k : ℕ). IsSealedReason old.seen k epoch fault) count-is (subst (λ (f : Files). IsSealedReason f named.count epoch fault) (seen-same old one first) stops))
  sealed-reason (why.Stack fault) stops = absurd stops
  sealed-reason (why.NoTop epoch reason) stops = absurd stops

  -- the sealed files were read
  module _ (two : DiskState) (second : Quiet one two) (sealed : List LayerIndex) (read : AreRead tells one two sealed) (number : length sealed ≡ named.count) where
    all-is : length sealed ≡ count_said body
    all-is = number ∙ count-is

    has-sealed : HasSealed old.seen layers body sealed
    has-sealed = record { lowers = has-lowers; are = subst (λ (f : Files). AreLayersOf (sealed_read f (length sealed)) sealed) (seen-same old one first) (read.told told) }

    has-stack : AreStackOrNone (layers ++ sealed) → HasStack old.seen layers body sealed
    has-stack stack = record { found = has-sealed; all = all-is; stack = stack }

    has-layers : AreStackOrNone (layers ++ sealed) → HaveSize named.exact named.sectors (heads_in sealed) → HasLayers old.seen layers body sealed
    has-layers stack sizes = record { found = has-stack stack; sizes = said-sizes sealed sizes }

    has-others : AreSound named layers sealed → HasOtherUuids old.seen layers body sealed
    has-others sound = record { found = has-layers sound.stack sound.sizes; unlike = other-uuid (uuid_said body) (layers ++ sealed) named.pending m.named_by.names.names.uuid sound.unlike }

    unsound-reason : (fault : LoadFault) → IsUnsound named layers sealed fault → IsLoadReason old.seen layers fault
    unsound-reason why.Memory bad = tt
    unsound-reason why.Failed bad = tt
    unsound-reason why.NoImage bad = absurd bad
    unsound-reason (why.ManifestWorn sequence) bad = absurd bad
    unsound-reason why.ManifestBad bad = absurd bad
    unsound-reason why.SizeDiffers bad = (body, inr (sealed, has-stack bad.0, λ sizes. bad.1 (own-sizes sealed sizes)))
    unsound-reason (why.Sealed epoch fault) bad = absurd bad
    unsound-reason (why.Stack fault) (inl bad) = (body, sealed, inl (has-sealed, all-is, bad.0, bad.1))
    unsound-reason (why.Stack fault) (inr bad) =
        let names = m.named_by.names.names in (
          body,
          sealed,
          inr (
            has-layers bad.1.1 bad.1.2,
            said-some (uuid_said body) bad.0 named.pending names.uuid names.named bad.1.0,
            subst (λ (u : List ℕ). IsUuidOf (heads_in (layers ++ sealed)) u fault) (sym (said-uuid (uuid_said body) bad.0 named.pending names.uuid bad.1.0)) bad.2,
          ),
        )
    unsound-reason (why.NoTop epoch reason) bad = absurd bad

    -- the reason of a top, as of the manifest's own numbers
    top-reason : (epoch : ℕ) (reason : TopReason) → IsReason named.sectors (heads_over named.exact epoch layers) (stored_in epoch two.seen) reason → IsTopReason old.seen layers body epoch reason
    top-reason epoch reason is =
        subst (λ (f : Files). IsReason (size_said body) (heads_over (exact_said body) epoch layers) (stored_in epoch f) reason) (seen-same one two second ∙ seen-same old one first)
        (subst (λ (e : Bool). IsReason (size_said body) (heads_over e epoch layers) (stored_in epoch two.seen) reason) exact-is
        (subst (λ (n : ℕ). IsReason n (heads_over named.exact epoch layers) (stored_in epoch two.seen) reason) size-is is))

    frozen-reason : (fault : LoadFault) → IsFrozenRefused two.seen named layers sealed fault → IsLoadReason old.seen layers fault
    frozen-reason why.Memory bad = tt
    frozen-reason why.Failed bad = tt
    frozen-reason why.NoImage bad = absurd bad.refused
    frozen-reason (why.ManifestWorn sequence) bad = absurd bad.refused
    frozen-reason why.ManifestBad bad = absurd bad.refused
    frozen-reason why.SizeDiffers bad = absurd bad.refused
    frozen-reason (why.Sealed epoch fault) bad = absurd bad.refused
    frozen-reason (why.Stack fault) bad = absurd bad.refused
    frozen-reason (why.NoTop epoch reason) bad =
        let names = m.named_by.names.names in
        let is : epoch ≡ named.count = bad.refused.0 in (
          body,
          sealed,
          has-others bad.sound,
          inl (
            said-some (uuid_said body) bad.uuid named.pending names.uuid names.named bad.pending,
            is ∙ count-is,
            subst (λ (k : ℕ). IsTopReason old.seen layers body k reason) (sym is) (top-reason named.count reason bad.refused.1),
          ),
        )

    current-reason : (fault : LoadFault) → IsCurrentRefused two.seen named layers sealed fault → IsLoadReason old.seen layers fault
    current-reason why.Memory bad = tt
    current-reason why.Failed bad = tt
    current-reason why.NoImage bad = absurd bad.refused
    current-reason (why.ManifestWorn sequence) bad = absurd bad.refused
    current-reason why.ManifestBad bad = absurd bad.refused
    current-reason why.SizeDiffers bad = absurd bad.refused
    current-reason (why.Sealed epoch fault) bad = absurd bad.refused
    current-reason (why.Stack fault) bad = absurd bad.refused
    current-reason (why.NoTop epoch reason) bad =
        let names = m.named_by.names.names in
        let top : ℕ = with_pending named.count named.pending in
        let is : epoch ≡ top = bad.refused.0 in
        let said : uuid_said body ≡ uuid_or_nil (pending_of bad.frozen) = names.uuid ∙ ap uuid_or_nil (sym bad.uuid) in
        let shown : uuid_said body ≢ nil → ShowsSomeTop old.seen layers body (count_said body) = λ some.
        subst (λ (f : Files). ShowsSomeTop f layers body (count_said body)) (seen-same one two second ∙ seen-same old one first)
        (subst (λ (e : Bool). (s : Stand) × ShowsTop (size_said body) (heads_over e (count_said body) layers) s (stored_in (count_said body) two.seen)) exact-is
        (subst (λ (n : ℕ). (s : Stand) × ShowsTop n (heads_over named.exact (count_said body) layers) s (stored_in (count_said body) two.seen)) size-is
        (subst (λ (k : ℕ). (s : Stand) × ShowsTop named.sectors (heads_over named.exact k layers) s (stored_in k two.seen)) count-is
        (frozen-some named.exact named.count named.sectors layers bad.frozen two.seen (uuid_said body) said some bad.shows)))) in (
          body,
          sealed,
          has-others bad.sound,
          inr (
            shown,
            is ∙ sym names.epoch,
            subst (λ (k : ℕ). IsTopReason old.seen layers body k reason) (sym is) (top-reason top reason bad.refused.1),
          ),
        )

    pub parts-reason : (fault : LoadFault) → IsPartsReason two.seen named layers sealed fault → IsLoadReason old.seen layers fault
    parts-reason fault (inl bad) = unsound-reason fault bad
    parts-reason fault (inr (inl bad)) = frozen-reason fault bad
    parts-reason fault (inr (inr bad)) = current-reason fault bad
