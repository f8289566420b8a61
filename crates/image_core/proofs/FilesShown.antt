-- Files that fit an image show one that may be.
use Rattle.std.proofs.Common.{◌≡◌, ◌⊎◌, ℕ, suc, ◌+◌, ◌<◌, ◌≤◌, inl, inr, List, [], ◌∷◌, ◌++◌, length, map, refl, sym, ap, ◌∙◌, subst, arith, append_assoc, length-append}
use Rattle.std.specs.Prelude.{nat_eq, false, Some, None, IfSome, Contains, slice_index_or}
use Rattle.std.proofs.lemmas.List.{get_or_append_left, get_or_at}
use Rattle.std.proofs.lemmas.Bool.Decides.{leb_tells}
use Rattle.block_disk.specs.DiskState.{Files}
use Rattle.lsmt_header.specs.declared.head.Head.{Head}
use Rattle.flat_image.specs.declared.act.Act.TheVariants.{Freeze, Seal, Grow}
use Rattle.flat_image.specs.declared.act.Asked.{Asked}
use Rattle.flat_image.specs.declared.act.Asked.TheVariants.{Nothing, Uuid, Sectors}
use Rattle.flat_image.specs.declared.base.Base.{Base}
use Rattle.flat_image.specs.Frozen.{Frozen}
use Rattle.flat_image.specs.CanonicalFiles.{canonical_head}
use Rattle.flat_image.specs.LayerReading.{uuid_in}
use Rattle.flat_image.specs.Base.{pending_of, top_uuid, top_size, IsFrozen, IsBase, HasFewStretches}
use Rattle.flat_image.specs.History.{step, sealed_over}
use Rattle.flat_image.specs.Left.{Stand, put_top, fresh_stand}
use Rattle.flat_image.proofs.SealedSheets.{becomes-layer}
use Rattle.flat_image.specs.LayerFiles.{IsHeadOf}
use Rattle.flat_image.proofs.StackSizes.{sealed-stands}
use Rattle.top_writer.specs.Files.{stored_in}
use Rattle.top_writer.specs.Stands.{with_grow}
use Rattle.top_writer.proofs.GrowLaws.{shows_grown}
use Rattle.image_core.specs.Numbers.{sealed_file, with_pending}
use Rattle.image_core.specs.Manifest.{Names, format_said, exact_said}
use Rattle.image_core.specs.Shows.{epoch_of, heads_asked, AreStack, IsSound, ShowsStand, ShowsFrozen, AreSealed, Shows}
use Rattle.image_core.specs.MayBe.{ShowsMayBe}
use Rattle.image_core.specs.Parts.{sealed_by}
use Rattle.image_core.specs.FileSets.{FreezeTried, SealTried, GrowTried, WasTried, FilesFit}
use Rattle.image_core.proofs.Sizes.{stack-grown}
use Rattle.image_core.proofs.StackMore.{stack-more}

-- the body names what the image has
shown-plain : (b : Base) (tops : List Stand) (attempts : List Asked) (files : Files) → (fit : FilesFit b tops attempts files)
    → Names fit.body (length b.done) (pending_of b.frozen) b.sectors → ShowsMayBe b tops attempts files
shown-plain b tops attempts files fit names = record {
  found = put_top b fit.top;
  shows = record {
    sequence = fit.sequence;
    body = fit.body;
    manifest = fit.manifest;
    names = names;
    sound = record { size = fit.sound.size; few = fit.sound.few; stack = fit.sound.stack; unlike = fit.sound.unlike };
    done = fit.done;
    frozen = fit.frozen;
    top = fit.shows;
  };
  may_be = record { top = fit.top; among = fit.among; is = inl refl };
}

-- a body that is written asks no more of sizes than that they are within the image
pub written-exact : (body : List ℕ) → format_said body ≡ 2 → exact_said body ≡ false
written-exact body is = ap (λ (f : ℕ). nat_eq f 0) is

-- or a freeze that was tried
shown-freeze : (b : Base) (tops : List Stand) (attempts : List Asked) (files : Files) (uuid : List ℕ) → (fit : FilesFit b tops attempts files)
    → Contains attempts (Uuid uuid) → FreezeTried b uuid fit.body files → ShowsMayBe b tops attempts files
shown-freeze b tops attempts files uuid fit among tried =
    let sound = fit.sound in
    let exact : exact_said fit.body ≡ false = written-exact fit.body tried.names.format in
    let top : Stand = fit.top in
    let none : pending_of b.frozen ≡ None = ap pending_of tried.may.free in
    let epoch : epoch_of b ≡ length b.done = ap (with_pending (length b.done)) none in
    let room : length b.lowers + length b.done + 1 ≤ 255 = omega (arith, tried.may.few, length-append b.lowers b.done) in
    record {
      found = step (put_top b top) (Freeze uuid);
      shows = record {
        sequence = fit.sequence;
        body = fit.body;
        manifest = fit.manifest;
        names = tried.names.names;
        sound = record { size = sound.size; few = room; stack = sound.stack; unlike = tried.may.unlike };
        done = fit.done;
        frozen = record { rows = top.rows; filled = top.filled; shows = subst (λ k. ShowsStand (exact_said fit.body) k b.sectors b.lowers top files) epoch fit.shows };
        top = subst (λ e. ShowsStand e (length b.done + 1) b.sectors b.lowers (fresh_stand b.sectors) files) (sym exact) tried.next;
      };
      may_be = record { top = top; among = fit.among; is = inr (Uuid uuid, among, inl (none, refl)) };
    }

-- or a seal that was tried
sealed-more : (done : List (List ℕ)) (file : List ℕ) (files : Files) → AreSealed done files → files (sealed_file (length done)) ≡ file → AreSealed (done ++ file ∷ []) files
sealed-more done file files are last k below = by_place (by_order k (length done))
  where
    by_order : (i n : ℕ) → (i < n) ⊎ (n ≤ i)
    by_order i n = elim (leb_tells (suc i) n) [ inl e ↦ inl e.1 | inr e ↦ inr (omega (arith, e.1)) ]

    by_place : (k < length done) ⊎ (length done ≤ k) → files (sealed_file k) ≡ slice_index_or (done ++ file ∷ []) k []
    by_place (inl before) = are k before ∙ sym (get_or_append_left done (file ∷ []) [] k before)
    by_place (inr behind) =
        let here : k ≡ length done = omega (arith, behind, below, length-append done (file ∷ [])) in
        ap (λ j. files (sealed_file j)) here ∙ (last ∙ (sym (get_or_at done file [] [] (length done) refl) ∙ ap (λ j. slice_index_or (done ++ file ∷ []) j []) (sym here)))

-- the image with the layer that its frozen sheet becomes
abbrev pub with_seal : Base → Frozen → Base
with_seal b f = record b { done = b.done ++ sealed_by (b.lowers ++ b.done) f ∷ []; frozen = None }

pub sealed-step : (b : Base) (f : Frozen) (uuid : List ℕ) → b.frozen ≡ Some f → with_seal b f ≡ step b (Seal uuid)
sealed-step b f uuid is = ap (λ o. record b { done = b.done ++ sealed_over (b.lowers ++ b.done) o; frozen = None }) (sym is)

pub sealed-sound : (b : Base) (f : Frozen) → b.frozen ≡ Some f → IsBase b → HasFewStretches b → IsSound false b → IsSound false (with_seal b f)
sealed-sound b f frozen_is is few sound =
    let layers : List (List ℕ) = b.lowers ++ b.done in
    let below : ℕ = top_size (length f.sheet) layers in
    let file : List ℕ = sealed_by layers f in
    let done : List (List ℕ) = b.done ++ file ∷ [] in
    let head : Head = canonical_head f.uuid (top_uuid layers) below f.sheet in
    let frozen : IsFrozen b.sectors f = subst (λ o. IfSome o (IsFrozen b.sectors)) frozen_is is.frozen_is in
    let made : IsHeadOf file head = record { sheet = f.sheet; layer = becomes-layer b f frozen_is is few } in
    let pending : pending_of b.frozen ≡ Some f.uuid = ap pending_of frozen_is in
    let own : Contains (map uuid_in layers) f.uuid → ⊥ = subst (λ p. IfSome p (λ u. Contains (map uuid_in layers) u → ⊥)) pending sound.unlike in
    let room : length b.lowers + length b.done + 1 ≤ 255 = subst (λ p. with_pending (length b.lowers + length b.done) p ≤ 255) pending sound.few in
    let count : length done ≡ length b.done + 1 = length-append b.done (file ∷ []) in
    record {
      size = sound.size;
      few = omega (arith, count, room);
      stack = subst (AreStack false b.sectors) (append_assoc b.lowers b.done (file ∷ []))
          (stack-more b.sectors (length f.sheet) layers file head sound.stack made (omega (arith, frozen.sheet_is.count)) (sealed-stands b f frozen_is is) refl own
          (omega (arith, room, length-append b.lowers b.done)));
      unlike = tt;
    }

pub sealed-epoch : (b : Base) (f : Frozen) → b.frozen ≡ Some f → epoch_of b ≡ length (with_seal b f).done
sealed-epoch b f is = ap (with_pending (length b.done)) (ap pending_of is) ∙ sym (length-append b.done (sealed_by (b.lowers ++ b.done) f ∷ []))

shown-seal : (b : Base) (tops : List Stand) (attempts : List Asked) (files : Files) (uuid : List ℕ) → IsBase b → HasFewStretches b
    → (fit : FilesFit b tops attempts files) → Contains attempts (Uuid uuid) → SealTried b uuid fit.body files → ShowsMayBe b tops attempts files
shown-seal b tops attempts files uuid is few fit among tried =
    let exact : exact_said fit.body ≡ false = written-exact fit.body tried.names.format in
    let f : Frozen = tried.frozen in
    let file : List ℕ = sealed_by (b.lowers ++ b.done) f in
    let count : length (b.done ++ file ∷ []) ≡ length b.done + 1 = length-append b.done (file ∷ []) in
    let c : Base = with_seal (put_top b fit.top) f in
    let sound : IsSound false (with_seal b f) = sealed-sound b f tried.is is few (subst (λ e. IsSound e b) exact fit.sound) in
    let shows : Shows files c = record {
      sequence = fit.sequence;
      body = fit.body;
      manifest = fit.manifest;
      names = subst (λ k. Names fit.body k None b.sectors) (sym count) tried.names.names;
      sound = record { size = sound.size; few = sound.few; stack = subst (λ e. AreStack e b.sectors (b.lowers ++ (b.done ++ file ∷ []))) (sym exact) sound.stack; unlike = tt };
      done = sealed-more b.done file files fit.done tried.file;
      frozen = tt;
      top = subst (λ k. ShowsStand (exact_said fit.body) k b.sectors b.lowers fit.top files) (sealed-epoch b f tried.is) fit.shows;
    } in
    record {
      found = c;
      shows = shows;
      may_be = record { top = fit.top; among = fit.among; is = inr (Uuid uuid, among, inr (ap pending_of tried.is ∙ ap (λ (u : List ℕ). Some u) tried.same, sealed-step (put_top b fit.top) f uuid tried.is)) };
    }

-- or a grow that was tried
shown-grow : (b : Base) (tops : List Stand) (attempts : List Asked) (files : Files) (sectors : ℕ) → (fit : FilesFit b tops attempts files)
    → Contains attempts (Sectors sectors) → GrowTried b.sectors (length b.done) b.frozen sectors fit.body → ShowsMayBe b tops attempts files
shown-grow b tops attempts files sectors fit among tried =
    let sound = fit.sound in
    let exact : exact_said fit.body ≡ false = written-exact fit.body tried.names.format in
    let more = tried.may.more in
    let rises : b.sectors ≤ sectors = omega (arith, more) in
    let none : pending_of b.frozen ≡ None = ap pending_of tried.may.free in
    let top : ShowsStand false (epoch_of b) sectors b.lowers (with_grow sectors fit.top) files =
    shows_grown b.sectors sectors (heads_asked (exact_said fit.body) (epoch_of b) b.lowers) fit.top (stored_in (epoch_of b) files) rises fit.shows in
    record {
      found = step (put_top b fit.top) (Grow sectors);
      shows = record {
        sequence = fit.sequence;
        body = fit.body;
        manifest = fit.manifest;
        names = subst (λ p. Names fit.body (length b.done) p sectors) (sym none) tried.names.names;
        sound = record {
          size = (omega (arith, sound.size.0, more), tried.may.few);
          few = sound.few;
          stack = subst (λ e. AreStack e sectors (b.lowers ++ b.done)) (sym exact) (stack-grown (exact_said fit.body) b.sectors sectors (b.lowers ++ b.done) rises sound.stack);
          unlike = sound.unlike;
        };
        done = fit.done;
        frozen = subst (λ f. ShowsFrozen (exact_said fit.body) (length b.done) sectors b.lowers f files) (sym tried.may.free) tt;
        top = subst (λ e. ShowsStand e (epoch_of b) sectors b.lowers (with_grow sectors fit.top) files) (sym exact) top;
      };
      may_be = record { top = fit.top; among = fit.among; is = inr (Sectors sectors, among, (none, refl)) };
    }

shown-tried : (b : Base) (tops : List Stand) (attempts : List Asked) (files : Files) (asked : Asked) → IsBase b → HasFewStretches b
    → (fit : FilesFit b tops attempts files) → Contains attempts asked → WasTried b asked fit.body files → ShowsMayBe b tops attempts files
shown-tried b tops attempts files Nothing is few fit among tried = absurd tried
shown-tried b tops attempts files (Uuid uuid) is few fit among tried =
    elim tried [
      | inl freeze ↦ shown-freeze b tops attempts files uuid fit among freeze
      | inr seal ↦ shown-seal b tops attempts files uuid is few fit among seal
    ]
shown-tried b tops attempts files (Sectors sectors) is few fit among tried = shown-grow b tops attempts files sectors fit among tried

pub files-shown : (b : Base) (tops : List Stand) (attempts : List Asked) (files : Files) → IsBase b → HasFewStretches b
    → FilesFit b tops attempts files → ShowsMayBe b tops attempts files
files-shown b tops attempts files is few fit =
    elim fit.named [
      | inl names ↦ shown-plain b tops attempts files fit names
      | inr tried ↦ shown-tried b tops attempts files tried.0 is few fit tried.1 tried.2
    ]
