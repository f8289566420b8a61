-- What a load has found, step by step.
use Rattle.std.specs.Prelude.{◌≡◌, ◌≢◌, ℕ, ◌+◌, ◌*◌, ◌^◌, ◌<◌, ◌≤◌, List, [], ◌∷◌, ◌++◌, length, map, take, drop, Contains, slice_get, slice_index_or, All, Bool, IsTrue, Option, Some, None, IfSome, ⊤, ◌⊎◌}
use Rattle.std.specs.Option.{option_map}
use Rattle.std.specs.Arc.{arc_value}
use Rattle.block_disk.specs.Changes.{Only}
use Rattle.block_disk.specs.DiskState.{DiskState, Files}
use Rattle.gate_mark.specs.declared.mark.Mark.{Mark}
use Rattle.gate_mark.specs.Mark.{file_of, sequence_in, body_in, IsKept, MayHold}
use Rattle.lsmt_header.specs.Blocks.{nil}
use Rattle.sealed_layer.specs.Layers.{LayerIndex, IsLayerIndex}
use Rattle.layer_stack.specs.Faults.{IsStackFault}
use Rattle.flat_image.specs.Frozen.{Frozen}
use Rattle.flat_image.specs.Base.{pending_of, IsFrozen}
use Rattle.flat_image.specs.CanonicalFiles.{stretches}
use Rattle.flat_image.specs.Left.{Stand}
use Rattle.top_writer.specs.declared.top.Top.{Top}
use Rattle.top_writer.specs.Blank.{blank_sheet}
use Rattle.top_writer.specs.Files.{stored_in}
use Rattle.top_writer.specs.Fitting.{TopFits}
use Rattle.top_writer.specs.Reasons.{IsReason}
use Rattle.top_writer.specs.Showing.{ShowsTop}
use Rattle.top_writer.specs.View.{epoch_of, sectors_of, sequence_of, table_of}
use Rattle.image_core.specs.declared.loading.LoadFault.{LoadFault}
use Rattle.image_core.specs.declared.loading.LoadFault.TheVariants as why
use Rattle.image_core.specs.declared.loading.Named.{Named}
use Rattle.image_core.specs.declared.parts.Commit.{Commit}
use Rattle.image_core.specs.declared.parts.Stack.{Stack}
use Rattle.image_core.specs.declared.parts.Parts.{Parts}
use Rattle.image_core.specs.Numbers.{manifest_file, sealed_file, with_pending}
use Rattle.image_core.specs.Manifest.{exact_said}
use Rattle.image_core.specs.Shows.{HaveSize}
use Rattle.image_core.specs.View.{AreLayersOf, sealed_read}
use Rattle.image_core.specs.Pieces.{IsSnapshotOf}
use Rattle.image_core.specs.Opening.{blank_frozen}
use Rattle.image_core.specs.Parts.{frozen_stand, CommitFits, CommitsFit, Becomes, IsSameStack, commit_view}
use Rattle.image_core.specs.Loading.{heads_in, heads_over, NamesOver, HasManifest, AreStackOrNone, IsSealedReason, IsUuidOf}

-- the body of a manifest says this of an image over so many lower layers
pub record IsNamedBy (lowers : ℕ) (body : List ℕ) (named : Named) : Type 0 where
  pub names : NamesOver lowers body named.count named.pending named.sectors
  pub exact : named.exact ≡ exact_said body

-- a manifest that was read: its mark, which holds one body, and what that names
pub record IsManifest (tells : Bool) (old new : DiskState) (layers : List LayerIndex) (mark : Mark) (named : Named) : Type 0 where
  pub file : file_of mark ≡ manifest_file
  pub low : sequence_in mark ≤ 2 ^ 61
  pub bodies : (body : List ℕ) → MayHold mark body → body ≡ body_in mark
  pub kept : IsKept new mark
  pub shows : IsTrue tells → HasManifest old.seen (body_in mark)
  pub named_by : IsNamedBy (length layers) (body_in mark) named
  pub sizes : HaveSize named.exact named.sectors (heads_in layers)

-- the sealed files of the first epochs were read: they are those of these layers, and a crash leaves them so
pub record AreRead (tells : Bool) (old new : DiskState) (sealed : List LayerIndex) : Type 0 where
  pub told : IsTrue tells → AreLayersOf (sealed_read old.seen (length sealed)) sealed
  pub left : (k : ℕ) → k < length sealed → Only (old.seen (sealed_file k)) (new.may_leave (sealed_file k))

-- why reading them stopped; of want of memory and the disk's fault nothing is said
abbrev pub StopsSealed : Files → ℕ → LoadFault → Type 0
StopsSealed files count why.Memory = ⊤
StopsSealed files count why.Failed = ⊤
StopsSealed files count (why.Sealed epoch fault) = IsSealedReason files count epoch fault
StopsSealed files count why.NoImage = ⊥
StopsSealed files count (why.ManifestWorn sequence) = ⊥
StopsSealed files count why.ManifestBad = ⊥
StopsSealed files count why.SizeDiffers = ⊥
StopsSealed files count (why.Stack fault) = ⊥
StopsSealed files count (why.NoTop epoch reason) = ⊥

-- none of the layers has the uuid
abbrev pub HaveOtherUuid : List LayerIndex → Option (List ℕ) → Type 0
HaveOtherUuid layers pending = IfSome pending (λ uuid. Contains (map (λ l. l.head.uuid) layers) uuid → ⊥)

-- all layers form a stack, those that were sealed have sectors for the image, and none has the uuid of the commit in progress
pub record AreSound (named : Named) (layers sealed : List LayerIndex) : Type 0 where
  pub stack : AreStackOrNone (layers ++ sealed)
  pub sizes : HaveSize named.exact named.sectors (heads_in sealed)
  pub unlike : HaveOtherUuid (layers ++ sealed) named.pending

-- all layers do, but for their sectors and the uuid; and the uuid is that of one of them
abbrev pub SharesUuid : Named → List LayerIndex → List LayerIndex → List ℕ → Type 0
SharesUuid named layers sealed uuid = (named.pending ≡ Some uuid) × AreStackOrNone (layers ++ sealed) × HaveSize named.exact named.sectors (heads_in sealed)

-- why they do not; of want of memory nothing is said
abbrev pub IsUnsound : Named → List LayerIndex → List LayerIndex → LoadFault → Type 0
IsUnsound named layers sealed why.Memory = ⊤
IsUnsound named layers sealed why.SizeDiffers = AreStackOrNone (layers ++ sealed) × ¬ HaveSize named.exact named.sectors (heads_in sealed)
IsUnsound named layers sealed (why.Stack fault) =
    ((1 ≤ length (layers ++ sealed)) × IsStackFault (heads_in (layers ++ sealed)) fault)
    ⊎ ((uuid : List ℕ) × SharesUuid named layers sealed uuid × IsUuidOf (heads_in (layers ++ sealed)) uuid fault)
IsUnsound named layers sealed why.Failed = ⊥
IsUnsound named layers sealed why.NoImage = ⊥
IsUnsound named layers sealed (why.ManifestWorn sequence) = ⊥
IsUnsound named layers sealed why.ManifestBad = ⊥
IsUnsound named layers sealed (why.Sealed epoch fault) = ⊥
IsUnsound named layers sealed (why.NoTop epoch reason) = ⊥

-- the stack of these layers, over which no commit is in progress
pub record IsStackOf (layers : List LayerIndex) (below : ℕ) (s : Stack) : Type 0 where
  pub lowers : s.lowers ≡ take below layers
  pub committed : s.committed.items ≡ drop below layers
  pub snapshot : IsSnapshotOf (arc_value s.snapshot) s.lowers s.committed.items
  pub commit : s.commit ≡ None
  pub next : s.next ≡ None

-- The top of an epoch was read, over these lower layers. It is what its files show, where the disk tells; where it does not,
-- what was read of them, with zeros as data.
pub record IsTopRead (tells : Bool) (old new : DiskState) (epoch : ℕ) (named : Named) (lowers : List LayerIndex) (top : Top) (s : Stand) : Type 0 where
  pub fits : TopFits tells new named.sectors (heads_over named.exact epoch lowers) top s (s ∷ [])
  pub shows : IsTrue tells → (shown : ShowsTop named.sectors (heads_over named.exact epoch lowers) s (stored_in epoch old.seen)) × (shown.sequence ≤ 2 ^ 61)
  pub blank : ¬ IsTrue tells → s.cells ≡ blank_sheet named.sectors (table_of top).segments
  pub epoch_is : epoch_of top ≡ epoch
  pub sectors : sectors_of top ≡ named.sectors
  pub low : sequence_of top ≤ 2 ^ 61

-- why a top was refused; of want of memory and the disk's fault nothing is said
abbrev pub IsTopRefused : Files → ℕ → Named → List LayerIndex → LoadFault → Type 0
IsTopRefused files epoch named lowers why.Memory = ⊤
IsTopRefused files epoch named lowers why.Failed = ⊤
IsTopRefused files epoch named lowers (why.NoTop number reason) =
    (number ≡ epoch) × IsReason named.sectors (heads_over named.exact epoch lowers) (stored_in epoch files) reason
IsTopRefused files epoch named lowers why.NoImage = ⊥
IsTopRefused files epoch named lowers (why.ManifestWorn sequence) = ⊥
IsTopRefused files epoch named lowers why.ManifestBad = ⊥
IsTopRefused files epoch named lowers why.SizeDiffers = ⊥
IsTopRefused files epoch named lowers (why.Sealed number fault) = ⊥
IsTopRefused files epoch named lowers (why.Stack fault) = ⊥

-- the frozen top of an epoch was read of its files, with that sheet, whatever rows and sectors it has, if there is one
abbrev pub IsFrozenRead : Bool → ℕ → ℕ → List LayerIndex → Option Frozen → Files → Type 0
IsFrozenRead exact epoch n lowers None files = Unit {0}
IsFrozenRead exact epoch n lowers (Some f) files =
    (rows : ℕ) × (filled : ℕ) × (shown : ShowsTop n (heads_over exact epoch lowers) (frozen_stand f rows filled) (stored_in epoch files)) × (shown.sequence ≤ 2 ^ 61)

-- The commit of a frozen top was begun anew.
pub record IsBegunAnew (tells : Bool) (old new : DiskState) (named : Named) (s t : Stack) (c : Commit) (f : Frozen) : Type 0 where
  pub fits : (lowers done : List (List ℕ)) → AreLayersOf lowers s.lowers → AreLayersOf done s.committed.items
      → CommitFits tells new named.exact named.sectors lowers done f c
  pub shows : IsTrue tells → IsFrozenRead named.exact (length s.committed.items) named.sectors s.lowers (Some f) old.seen
  pub blank : ¬ IsTrue tells → f.sheet ≡ blank_sheet named.sectors (table_of c.top).segments
  pub begun : c.sealing.done ≡ 0
  pub becomes : IsSnapshotOf (arc_value s.snapshot) s.lowers s.committed.items → Becomes t c
  pub sheet_is : IsFrozen named.sectors f
  pub few : length (stretches 0 f.sheet) ≤ 2 ^ 23
  pub same : IsSameStack s t

-- The commit in progress that the manifest names was begun anew, or there is none: `frozen` is the sheet of its top.
pub record IsCommitRead (tells : Bool) (old new : DiskState) (named : Named) (s t : Stack) (frozen : Option Frozen) : Type 0 where
  pub uuid : pending_of frozen ≡ named.pending
  pub fits : (lowers done : List (List ℕ)) → AreLayersOf lowers s.lowers → AreLayersOf done s.committed.items
      → CommitsFit tells new named.exact named.sectors lowers done frozen t.commit
  pub shows : IsTrue tells → IsFrozenRead named.exact (length s.committed.items) named.sectors s.lowers frozen old.seen
  pub blank : ¬ IsTrue tells → frozen ≡ blank_frozen named.sectors (option_map commit_view t.commit)
  pub begun : IfSome t.commit (λ c. c.sealing.done ≡ 0)
  pub becomes : (c : Commit) → t.commit ≡ Some c → Becomes t c
  pub sheet_is : IfSome frozen (IsFrozen named.sectors)
  pub few : IfSome frozen (λ f. length (stretches 0 f.sheet) ≤ 2 ^ 23)
  pub lowers : t.lowers ≡ s.lowers
  pub committed : t.committed.items ≡ s.committed.items
  pub snapshot : t.snapshot ≡ s.snapshot
  pub next : t.next ≡ s.next

-- What an image has in memory was read, of these lower and these sealed layers.
pub record ArePartsRead (tells : Bool) (old new : DiskState) (named : Named) (lowers sealed : List LayerIndex) (p : Parts) : Type 0 where
  pub sound : AreSound named lowers sealed
  pub indexed : All (λ layer. IsLayerIndex layer.head layer.rows) (lowers ++ sealed)
  pub before : Stack
  pub stack : IsStackOf (lowers ++ sealed) (length lowers) before
  pub frozen : Option Frozen
  pub commit : IsCommitRead tells old new named before p.stack frozen
  pub stand : Stand
  pub top : IsTopRead tells old new (with_pending named.count named.pending) named lowers p.top stand
  pub steps : p.steps ≡ 0

-- Why it was not, where the layers were read: the layers are not sound, or the frozen top is none, or the current one.
pub record IsFrozenRefused (files : Files) (named : Named) (lowers sealed : List LayerIndex) (fault : LoadFault) : Type 0 where
  pub sound : AreSound named lowers sealed
  pub uuid : List ℕ
  pub pending : named.pending ≡ Some uuid
  pub refused : IsTopRefused files named.count named lowers fault

pub record IsCurrentRefused (files : Files) (named : Named) (lowers sealed : List LayerIndex) (fault : LoadFault) : Type 0 where
  pub sound : AreSound named lowers sealed
  pub frozen : Option Frozen
  pub uuid : pending_of frozen ≡ named.pending
  pub shows : IsFrozenRead named.exact named.count named.sectors lowers frozen files
  pub refused : IsTopRefused files (with_pending named.count named.pending) named lowers fault

abbrev pub IsPartsReason : Files → Named → List LayerIndex → List LayerIndex → LoadFault → Type 0
IsPartsReason files named lowers sealed fault =
    IsUnsound named lowers sealed fault ⊎ IsFrozenRefused files named lowers sealed fault ⊎ IsCurrentRefused files named lowers sealed fault
