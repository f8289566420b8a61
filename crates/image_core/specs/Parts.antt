-- What an image has in memory, what holds of it and its files, and what its steps note.
use Rattle.std.specs.Prelude.{◌≡◌, ℕ, ◌+◌, ◌^◌, ◌<◌, ◌≤◌, ◌⊎◌, Contains, List, [], ◌∷◌, ◌++◌, length, slice_index_or, Bool, false, IsTrue, Option, Some, None, Result, Ok, Err, ⊤}
use Rattle.std.specs.Arc.{arc_value}
use Rattle.std.specs.Option.{option_map}
use Rattle.std.specs.Vec.{vec_len, vec_capacity}
use Rattle.block_disk.specs.DiskState.{DiskState}
use Rattle.block_disk.specs.declared.disk.Disk.{Ghosts}
use Rattle.block_disk.specs.Claims.{Run}
use Rattle.gate_mark.specs.Mark.{file_of, IsKept, MayHold}
use Rattle.flat_image.specs.declared.act.Act.{Act}
use Rattle.flat_image.specs.declared.act.Act.TheVariants.{Fault}
use Rattle.flat_image.specs.declared.act.Asked.{Asked}
use Rattle.flat_image.specs.declared.act.Asked.TheVariants.{Nothing, Uuid, Sectors}
use Rattle.flat_image.specs.declared.base.Base.{Base}
use Rattle.flat_image.specs.Base.{pending_of, top_uuid, top_size}
use Rattle.flat_image.specs.CanonicalFiles as canonical
use Rattle.flat_image.specs.Frozen.{Frozen}
use Rattle.flat_image.specs.History.{CanFreeze}
use Rattle.flat_image.specs.Left.{Stand, stand, fresh_stand}
use Rattle.sealed_layer.specs.Layers.{LayerIndex}
use Rattle.layer_commit.specs.Fitting.{SealFits, IsWhole}
use Rattle.layer_commit.specs.View.{SealView, file_by, pieces_of}
use Rattle.top_writer.specs.declared.fault.WriteFault.{WriteFault}
use Rattle.top_writer.specs.declared.fault.WriteFault.TheVariants.{Full, Memory, Failed}
use Rattle.top_writer.specs.declared.fault.ReadFault.{ReadFault}
use Rattle.top_writer.specs.declared.fault.ReadFault.TheVariants as reads
use Rattle.top_writer.specs.declared.top.Top.{Top}
use Rattle.top_writer.specs.Files.{data_file, asked_of, TopFiles}
use Rattle.top_writer.specs.Changes.{IsGrown}
use Rattle.top_writer.specs.View.{view_of, epoch_of, sectors_of, sequence_of, rows_used, sectors_used, table_of}
use Rattle.top_writer.specs.Fitting.{TopFits}
use Rattle.image_core.specs.declared.parts.Commit.{Commit}
use Rattle.image_core.specs.declared.parts.Stack.{Stack}
use Rattle.image_core.specs.declared.parts.Parts.{Parts}
use Rattle.image_core.specs.Numbers.{manifest_file, sealed_file}
use Rattle.image_core.specs.Manifest.{Names, IsWritten, exact_said}
use Rattle.image_core.specs.Shows as shows
use Rattle.image_core.specs.View.{CommitView, ImageView, AreLayersOf}
use Rattle.image_core.specs.Pieces.{IsSnapshotOf}
use Rattle.image_core.specs.FileSets.{GrowTried}

-- what is kept of the layer that a sealing makes
abbrev pub layer_in : SealView → LayerIndex
layer_in v = record { head = v.head; rows = v.rows }

-- the commit in progress, seen from above
abbrev pub commit_view : Commit → CommitView
commit_view c = record {
  uuid = c.uuid;
  epoch = epoch_of c.top;
  table = (table_of c.top).segments;
  done = c.sealing.done;
  total = pieces_of c.sealing;
}

-- the image in memory, seen from above
abbrev pub parts_view : Parts → ImageView
parts_view p = record {
  sectors = sectors_of p.top;
  lowers = p.stack.lowers;
  committed = p.stack.committed.items;
  commit = option_map commit_view p.stack.commit;
  epoch = epoch_of p.top;
  table = (table_of p.top).segments;
  rows = rows_used p.top;
  filled = sectors_used p.top;
  steps = p.steps;
}

-- the sealed files of the first epochs are these, also in whatever a crash leaves
abbrev pub AreWhole : Bool → DiskState → List (List ℕ) → Type 0
AreWhole tells disk done = (k : ℕ) → k < length done → IsWhole tells disk (sealed_file k) (slice_index_or done k [])

-- the file that a frozen sheet becomes, over these files
abbrev pub sealed_by : List (List ℕ) → Frozen → List ℕ
sealed_by layers f = canonical.file_of f.uuid (top_uuid layers) (top_size (length f.sheet) layers) f.sheet

-- a frozen top, seen from above, with the rows and the sectors that it has
abbrev pub frozen_stand : Frozen → ℕ → ℕ → Stand
frozen_stand f rows filled = record { cells = f.sheet; rows = rows; filled = filled }

-- The commit in memory and its files are those of the frozen sheet: all of it is on the disk, and its sealing makes the file
-- that it becomes of the data file as it reads.
pub record CommitFits (tells : Bool) (disk : DiskState) (exact : Bool) (n : ℕ) (lowers done : List (List ℕ)) (f : Frozen) (c : Commit) : Type 0 where
  pub uuid_is : c.uuid ≡ f.uuid
  pub epoch : epoch_of c.top ≡ length done
  pub rows : ℕ
  pub filled : ℕ
  pub top : TopFits tells disk n (shows.heads_asked exact (length done) lowers) c.top (frozen_stand f rows filled) (frozen_stand f rows filled ∷ [])
  pub stored : List ℕ
  pub sealing : SealFits tells disk c.sealing stored
  pub from : c.sealing.from_file ≡ data_file (length done)
  pub to : c.sealing.to_file ≡ sealed_file (length done)
  pub file : file_by c.sealing stored ≡ sealed_by (lowers ++ done) f

-- and so where there is one
abbrev pub CommitsFit : (tells : Bool) (disk : DiskState) (exact : Bool) (n : ℕ) (lowers done : List (List ℕ)) → Option Frozen → Option Commit → Type 0
CommitsFit tells disk exact n lowers done None None = Unit {0}
CommitsFit tells disk exact n lowers done None (Some c) = ⊥
CommitsFit tells disk exact n lowers done (Some f) None = ⊥
CommitsFit tells disk exact n lowers done (Some f) (Some c) = CommitFits tells disk exact n lowers done f c

-- The files of the next epoch were made, and nothing is frozen: they show a top in which nothing was written.
pub record NextFits (tells : Bool) (disk : DiskState) (n done : ℕ) (frozen : Option Frozen) (t : Top) : Type 0 where
  pub free : frozen ≡ None
  pub epoch : epoch_of t ≡ done + 1
  pub sequence : sequence_of t ≤ 2 ^ 61
  pub top : TopFits tells disk n (asked_of false None) t (fresh_stand n) (fresh_stand n ∷ [])

abbrev pub NextsFit : (tells : Bool) (disk : DiskState) (n done : ℕ) (frozen : Option Frozen) → Option Top → Type 0
NextsFit tells disk n done frozen None = Unit {0}
NextsFit tells disk n done frozen (Some t) = NextFits tells disk n done frozen t

-- only these lower layers stand under the top
pub record IsBareStack (layers : List LayerIndex) (s : Stack) : Type 0 where
  pub lowers : s.lowers ≡ layers
  pub committed : s.committed.items ≡ []
  pub snapshot : IsSnapshotOf (arc_value s.snapshot) layers []
  pub commit : s.commit ≡ None
  pub next : s.next ≡ None

-- the same but for the memory that is in reserve
pub record IsSameStack (s t : Stack) : Type 0 where
  pub lowers : t.lowers ≡ s.lowers
  pub committed : t.committed.items ≡ s.committed.items
  pub snapshot : t.snapshot ≡ s.snapshot
  pub commit : t.commit ≡ s.commit
  pub next : t.next ≡ s.next

-- the same but for the top of the next epoch, which got so many sectors, where there is one
abbrev pub IsGrownNext : Option Top → ℕ → Option Top → Type 0
IsGrownNext None sectors None = Unit {0}
IsGrownNext None sectors (Some u) = ⊥
IsGrownNext (Some t) sectors None = ⊥
IsGrownNext (Some t) sectors (Some u) = IsGrown (view_of t) sectors (view_of u)

pub record IsGrownStack (s : Stack) (sectors : ℕ) (t : Stack) : Type 0 where
  pub same : t ≡ record s { next = t.next }
  pub next : IsGrownNext s.next sectors t.next

-- The top of the next epoch is taken: one whose files are made is that one, and the disk is not called; else its files are
-- made, and no others are touched.
abbrev pub IsNext : Option Top → Top → Type 0
IsNext None top = ⊤
IsNext (Some t) top = top ≡ t

abbrev pub TakesNext : {D : Type 0} → Ghosts D → ℕ → Option Top → D → D → Type 0
TakesNext kind epoch None old new = Run (TopFiles epoch) (kind.state old) (kind.state new) (λ files. Unit {0})
TakesNext kind epoch (Some t) old new = new ≡ old

-- the commit leads to the snapshot with its layer, for which there is room
pub record Becomes (s : Stack) (c : Commit) : Type 0 where
  pub snapshot : IsSnapshotOf (arc_value c.snapshot) s.lowers (s.committed.items ++ layer_in c.sealing ∷ [])
  pub room : vec_len s.committed < vec_capacity s.committed

-- What stands under the top in memory, and its files, are these layers and this frozen sheet.
pub record StackFits (tells : Bool) (disk : DiskState) (exact : Bool) (n : ℕ) (lowers done : List (List ℕ)) (frozen : Option Frozen) (s : Stack) : Type 0 where
  pub lowers_are : AreLayersOf lowers s.lowers
  pub committed : AreLayersOf done s.committed.items
  pub sealed : AreWhole tells disk done
  pub snapshot : IsSnapshotOf (arc_value s.snapshot) s.lowers s.committed.items
  pub commit : CommitsFit tells disk exact n lowers done frozen s.commit
  pub becomes : (c : Commit) → s.commit ≡ Some c → Becomes s c
  pub next : NextsFit tells disk n (length done) frozen s.next

-- a freeze of the uuid was tried: the body names it, and the files of the next epoch are made
pub record FreezeMade (n : ℕ) (lowers done : List (List ℕ)) (frozen : Option Frozen) (s : Stack) (uuid body : List ℕ) : Type 0 where
  pub may : CanFreeze (lowers ++ done) frozen uuid
  pub names : IsWritten body (length done) (Some uuid) n
  pub made : Top
  pub made_is : s.next ≡ Some made

-- a seal of the uuid was tried: the body names one layer more, all of its file is written, and a crash leaves it
pub record SealMade (disk : DiskState) (n : ℕ) (lowers done : List (List ℕ)) (frozen : Option Frozen) (s : Stack) (uuid body : List ℕ) : Type 0 where
  pub sheet : Frozen
  pub is : frozen ≡ Some sheet
  pub same : sheet.uuid ≡ uuid
  pub names : IsWritten body (length done + 1) None n
  pub left : (c : List ℕ) → disk.may_leave (sealed_file (length done)) c → c ≡ sealed_by (lowers ++ done) sheet
  pub all : (c : Commit) → s.commit ≡ Some c → c.sealing.done ≡ pieces_of c.sealing

-- the step that was asked for this was tried
abbrev pub WasMade : (disk : DiskState) (n : ℕ) (lowers done : List (List ℕ)) (frozen : Option Frozen) (s : Stack) → Asked → List ℕ → Type 0
WasMade disk n lowers done frozen s Nothing body = ⊥
WasMade disk n lowers done frozen s (Uuid uuid) body = FreezeMade n lowers done frozen s uuid body ⊎ SealMade disk n lowers done frozen s uuid body
WasMade disk n lowers done frozen s (Sectors sectors) body = GrowTried n (length done) frozen sectors body

-- The image in memory and its files are those of that base. A crash leaves a manifest that names it, or one of these steps
-- as it was tried, and a top that shows one of these. While the manifest has the older format, layers and tops have just
-- the sectors of the image.
pub record PartsFit (tells : Bool) (disk : DiskState) (p : Parts) (b : Base) (tops : List Stand) (attempts : List Asked) : Type 0 where
  pub exact : Bool
  pub sound : shows.IsSound exact b
  pub manifest_is : file_of p.manifest ≡ manifest_file
  pub manifest : IsKept disk p.manifest
  pub format : (body : List ℕ) → MayHold p.manifest body → IsTrue (exact_said body) → IsTrue exact
  pub named : (body : List ℕ) → MayHold p.manifest body
      → Names body (length b.done) (pending_of b.frozen) b.sectors
      ⊎ ((asked : Asked) × Contains attempts asked × WasMade disk b.sectors b.lowers b.done b.frozen p.stack asked body)
  pub stack : StackFits tells disk exact b.sectors b.lowers b.done b.frozen p.stack
  pub epoch : epoch_of p.top ≡ shows.epoch_of b
  pub top : TopFits tells disk b.sectors (shows.heads_asked exact (shows.epoch_of b) b.lowers) p.top (stand b) tops

-- what a change notes: its act, a fault where the disk failed, and nothing where it was refused
abbrev pub noted_change : {T : Type 0} → Act → Result T WriteFault → Option Act
noted_change act (Ok value) = Some act
noted_change act (Err (Full rows sectors)) = None
noted_change act (Err Memory) = None
noted_change act (Err Failed) = Some (Fault Nothing)

-- what a step notes that fails only where the disk does
abbrev pub noted_call : {T E : Type 0} → Act → Result T E → Option Act
noted_call act (Ok value) = Some act
noted_call act (Err fault) = Some (Fault Nothing)

-- what a read notes: its act, a fault where the disk failed, and nothing without memory
abbrev pub noted_read : {T : Type 0} → Act → Result T ReadFault → Option Act
noted_read act (Ok value) = Some act
noted_read act (Err reads.Memory) = None
noted_read act (Err reads.Failed) = Some (Fault Nothing)
