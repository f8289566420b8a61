-- What a load reads, step by step: it stays as it was read, also seen from before, and shows what the files show.
use Rattle.std.proofs.Common.{◌≡◌, ℕ, zero, suc, ◌+◌, ◌*◌, ◌^◌, ◌<◌, ◌≤◌, Bool, true, false, IsTrue, List, [], ◌∷◌, ◌++◌, length, map, take, drop, refl, sym, ap, ◌∙◌, subst, arith}
use Rattle.std.specs.Prelude.{All, Option, Some, None, IfSome, slice_index_or}
use Rattle.std.specs.List.{range_with_len}
use Rattle.std.specs.Option.{option_map}
use Rattle.std.proofs.Math.Seq.{take-append_seam, drop-append_seam}
use Rattle.std.proofs.lemmas.List.{length-map}
use Rattle.std.proofs.lemmas.List.Elements.{All-tail}
use Rattle.std.proofs.lemmas.List.FromFn.{length-map-range_with_len, get_or-map-range_with_len}
use Rattle.block_disk.specs.DiskState.{DiskState, Files}
use Rattle.block_disk.specs.Claims.{Quiet}
use Rattle.sealed_layer.specs.Layers.{LayerIndex, IsLayerIndex}
use Rattle.flat_image.specs.CanonicalFiles.{blank_file}
use Rattle.flat_image.specs.Frozen.{Frozen}
use Rattle.flat_image.specs.Left.{Stand}
use Rattle.layer_commit.specs.Fitting.{IsWhole}
use Rattle.top_writer.specs.declared.top.Top.{Top}
use Rattle.top_writer.specs.Files.{TopFiles, HeadsAsked, asked_of, Stored, stored_in}
use Rattle.top_writer.specs.Fitting.{TopFits}
use Rattle.top_writer.specs.Showing.{ShowsTop}
use Rattle.top_writer.proofs.Going.{fits_spared}
use Rattle.image_core.specs.declared.loading.Named.{Named}
use Rattle.image_core.specs.declared.parts.Commit.{Commit}
use Rattle.image_core.specs.declared.parts.Parts.{Parts}
use Rattle.image_core.specs.declared.parts.Stack.{Stack}
use Rattle.image_core.specs.Numbers.{sealed_file, with_pending}
use Rattle.image_core.specs.Shows.{parent_asked, ShowsFrozen, IsFrozenUnworn}
use Rattle.image_core.specs.View.{AreLayersOf, sealed_read}
use Rattle.image_core.specs.Opening.{blank_layers}
use Rattle.image_core.specs.Parts.{AreWhole, frozen_stand, CommitsFit, commit_view, parts_view}
use Rattle.image_core.specs.Loading.{parent_over, heads_over}
use Rattle.image_core.specs.Found.{AreRead, IsTopRead, IsFrozenRead, IsCommitRead, ArePartsRead}
use Rattle.image_core.proofs.BlankLayers.{layers-blank}
use Rattle.image_core.proofs.Created.{same-upper}
use Rattle.image_core.proofs.StackLaws.{commits-spared}

-- calls that change nothing leave all files as they read
pub seen-same : (old new : DiskState) → Quiet old new → new.seen ≡ old.seen
seen-same old new quiet = λ i f. quiet.others.seen f (λ none. none) i

-- the parent that is asked for over layers is that over their files
pub parent-same : (epoch : ℕ) (files : List (List ℕ)) (layers : List LayerIndex) → AreLayersOf files layers → parent_over epoch layers ≡ parent_asked epoch files
parent-same zero files layers are = ap (λ (u : List ℕ). Some u) (same-upper files layers are)
parent-same (suc epoch) files layers are = refl

-- the files show the top, and the sequence of its mark is at most 2^61
abbrev pub IsShown : ℕ → HeadsAsked → Stand → Stored → Type 0
IsShown n asked s stored = (shown : ShowsTop n asked s stored) × (shown.sequence ≤ 2 ^ 61)

-- a frozen top that was read is shown, over the files of the layers
pub frozen-shows : (exact : Bool) (epoch n : ℕ) (files : List (List ℕ)) (layers : List LayerIndex) (frozen : Option Frozen) (seen : Files) → AreLayersOf files layers
    → IsFrozenRead exact epoch n layers frozen seen → (shown : ShowsFrozen exact epoch n files frozen seen) × IsFrozenUnworn exact epoch n files frozen seen shown
frozen-shows exact epoch n files layers None seen are read = (tt, tt)
frozen-shows exact epoch n files layers (Some f) seen are read =
    let shown : IsShown n (asked_of exact (parent_asked epoch files)) (frozen_stand f read.0 read.1) (stored_in epoch seen) =
    subst (λ (p : Option (List ℕ)). IsShown n (asked_of exact p) (frozen_stand f read.0 read.1) (stored_in epoch seen)) (parent-same epoch files layers are) (read.2, read.3) in
    (record { rows = read.0; filled = read.1; shows = shown.0 }, shown.1)

-- the files of the layers that were sealed: as they read, where the disk tells, or else with zeros as data
abbrev pub done-from : Bool → Files → List LayerIndex → List (List ℕ)
done-from true files sealed = sealed_read files (length sealed)
done-from false files sealed = blank_layers sealed

abbrev IsIndex : LayerIndex → Type 0
IsIndex layer = IsLayerIndex layer.head layer.rows

pub all-behind : (xs ys : List LayerIndex) → All (λ layer. IsLayerIndex layer.head layer.rows) (xs ++ ys) → All (λ layer. IsLayerIndex layer.head layer.rows) ys
all-behind [] ys all = all
all-behind (x ∷ xs) ys all = all-behind xs ys (All-tail IsIndex x (xs ++ ys) all)

pub are-done : (tells : Bool) (files : Files) (sealed : List LayerIndex) → (IsTrue tells → AreLayersOf (sealed_read files (length sealed)) sealed)
    → All (λ layer. IsLayerIndex layer.head layer.rows) sealed → AreLayersOf (done-from tells files sealed) sealed
are-done true files sealed told all = told refl
are-done false files sealed told all = layers-blank sealed all

pub length-done : (tells : Bool) (files : Files) (sealed : List LayerIndex) → length (done-from tells files sealed) ≡ length sealed
length-done true files sealed = length-map-range_with_len (λ (k : ℕ). files (sealed_file k)) 0 (length sealed)
length-done false files sealed = length-map sealed (λ (layer : LayerIndex). blank_file layer.head layer.rows)

-- where the disk tells, they are the files as they read
pub done-told : (tells : Bool) (files : Files) (sealed : List LayerIndex) (k : ℕ) → IsTrue tells → k < length (done-from tells files sealed)
    → files (sealed_file k) ≡ slice_index_or (done-from tells files sealed) k []
done-told true files sealed k told below =
    sym (get_or-map-range_with_len (λ (k : ℕ). files (sealed_file k)) 0 (length sealed) k k [] (omega (arith, below, length-done true files sealed)) (omega arith))
done-told false files sealed k told below = absurd (let no : false ≡ true = told in cc)

pub done-untold : (tells : Bool) (files : Files) (sealed : List LayerIndex) → ¬ IsTrue tells → done-from tells files sealed ≡ blank_layers sealed
done-untold true files sealed not = absurd (not refl)
done-untold false files sealed not = refl

-- what was read of the sealed files a crash leaves
pub done-whole : (tells : Bool) (one two new : DiskState) (sealed : List LayerIndex) → AreRead tells one two sealed → Quiet one two → Quiet two new
    → ((f : ℕ) (c : List ℕ) → new.may_leave f c → IsTrue tells) → AreWhole tells new (done-from tells one.seen sealed)
done-whole tells one two new sealed read first second told k below = record {
  stays = λ c left.
      read.left k (omega (arith, below, length-done tells one.seen sealed)) c (second.others.left (sealed_file k) c (λ none. none) left)
      ∙ done-told tells one.seen sealed k (told (sealed_file k) c left) below;
  seen = λ is.
      second.others.seen (sealed_file k) (λ none. none) ∙ (first.others.seen (sealed_file k) (λ none. none) ∙ done-told tells one.seen sealed k is below);
}

-- what was read of a commit in progress stays behind calls that change nothing, and was so before them
pub commit-later : (tells : Bool) (old mid new : DiskState) (named : Named) (s t : Stack) (frozen : Option Frozen) → Quiet mid new
    → IsCommitRead tells old mid named s t frozen → IsCommitRead tells old new named s t frozen
commit-later tells old mid new named s t frozen quiet read = record {
  uuid = read.uuid;
  fits = λ lowers done are also.
      commits-spared tells mid new (λ f. ⊥) quiet.others named.exact named.sectors lowers done (λ none. none) frozen t.commit (λ f is none. none) (read.fits lowers done are also);
  shows = read.shows;
  blank = read.blank;
  begun = read.begun;
  becomes = read.becomes;
  sheet_is = read.sheet_is;
  few = read.few;
  lowers = read.lowers;
  committed = read.committed;
  snapshot = read.snapshot;
  next = read.next;
}

pub commit-earlier : (tells : Bool) (old mid new : DiskState) (named : Named) (s t : Stack) (frozen : Option Frozen) → Quiet old mid
    → IsCommitRead tells mid new named s t frozen → IsCommitRead tells old new named s t frozen
commit-earlier tells old mid new named s t frozen quiet read = record {
  uuid = read.uuid;
  fits = read.fits;
  shows = λ told. subst (IsFrozenRead named.exact (length s.committed.items) named.sectors s.lowers frozen) (seen-same old mid quiet) (read.shows told);
  blank = read.blank;
  begun = read.begun;
  becomes = read.becomes;
  sheet_is = read.sheet_is;
  few = read.few;
  lowers = read.lowers;
  committed = read.committed;
  snapshot = read.snapshot;
  next = read.next;
}

-- and so was a top
pub top-earlier : (tells : Bool) (old mid new : DiskState) (epoch : ℕ) (named : Named) (lowers : List LayerIndex) (top : Top) (s : Stand) → Quiet old mid
    → IsTopRead tells mid new epoch named lowers top s → IsTopRead tells old new epoch named lowers top s
top-earlier tells old mid new epoch named lowers top s quiet read = record {
  fits = read.fits;
  shows = λ told. subst (λ (f : Files). IsShown named.sectors (heads_over named.exact epoch lowers) s (stored_in epoch f)) (seen-same old mid quiet) (read.shows told);
  blank = read.blank;
  epoch_is = read.epoch_is;
  sectors = read.sectors;
  low = read.low;
}

pub parts-earlier : (tells : Bool) (old mid new : DiskState) (named : Named) (lowers sealed : List LayerIndex) (p : Parts) → Quiet old mid
    → ArePartsRead tells mid new named lowers sealed p → ArePartsRead tells old new named lowers sealed p
parts-earlier tells old mid new named lowers sealed p quiet read = record {
  sound = read.sound;
  indexed = read.indexed;
  before = read.before;
  stack = read.stack;
  frozen = read.frozen;
  commit = commit-earlier tells old mid new named read.before p.stack read.frozen quiet read.commit;
  stand = read.stand;
  top = top-earlier tells old mid new (with_pending named.count named.pending) named lowers p.top read.stand quiet read.top;
  steps = read.steps;
}

-- none of the file of a commit that was begun anew is written, also as it is seen from above
begun-above : (commit : Option Commit) → IfSome commit (λ c. c.sealing.done ≡ 0) → IfSome (option_map commit_view commit) (λ c. c.done ≡ 0)
begun-above None begun = tt
begun-above (Some c) begun = begun

pub begun-view : (p : Parts) → IfSome p.stack.commit (λ c. c.sealing.done ≡ 0) → IfSome (parts_view p).commit (λ c. c.done ≡ 0)
begun-view p begun = begun-above p.stack.commit begun

-- a list that is cut behind its first part
pub cut-both : (items lowers sealed : List LayerIndex) (below : ℕ) → items ≡ lowers ++ sealed → below ≡ length lowers → (take below items ≡ lowers) × (drop below items ≡ sealed)
cut-both items lowers sealed below is at = (
  (λ i. take (at i) (is i)) ∙ take-append_seam lowers sealed,
  (λ i. drop (at i) (is i)) ∙ drop-append_seam lowers sealed,
)
