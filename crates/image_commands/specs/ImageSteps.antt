-- What the steps of a command do to an opened image.
use Rattle.std.specs.Prelude.{◌≡◌, ◌≢◌, ℕ, ◌+◌, ◌*◌, ◌%◌, ◌<◌, ◌≤◌, ◌⊎◌, ⊤, Result, Ok, Err, Bool, true, false, IsTrue, List, [], ◌∷◌, ◌++◌, length, filter, Contains, Option, Some, None, IfSome}
use Rattle.std.specs.Io.KnownBytes.{Appends, Keeps}
use Rattle.byte_ports.specs.Ports.{AppendsFront}
use Rattle.block_disk.specs.Claims.{Quiet}
use Rattle.flat_image.specs.declared.act.Act.{Act}
use Rattle.flat_image.specs.declared.act.Act.TheVariants.{Read, Write, Zero, Flush, Freeze, Seal, Grow, Fault}
use Rattle.flat_image.specs.declared.act.Asked.{Asked}
use Rattle.flat_image.specs.declared.act.Asked.TheVariants.{Nothing, Sectors}
use Rattle.flat_image.specs.declared.base.Base.{Base}
use Rattle.flat_image.specs.Entries.{entry, StartsWith}
use Rattle.flat_image.specs.History.{History, reply, IsOver, rows_taken, sectors_taken}
use Rattle.layer_stack.specs.Faults.{IsStackFault}
use Rattle.top_writer.specs.declared.fault.WriteFault.{WriteFault}
use Rattle.top_writer.specs.declared.fault.WriteFault.TheVariants as write
use Rattle.gate_mark.specs.MarkFile.{mark_of}
use Rattle.sealed_layer.specs.Layers.{LayerIndex}
use Rattle.layer_commands.specs.Flattening.{upper_sectors}
use Rattle.image_core.specs.Numbers.{manifest_file}
use Rattle.image_core.specs.declared.creating.CreateFault.{CreateFault}
use Rattle.image_core.specs.declared.creating.CreateFault.TheVariants as create
use Rattle.image_core.specs.declared.growing.GrowFault.{GrowFault}
use Rattle.image_core.specs.declared.growing.GrowFault.TheVariants as grow
use Rattle.image_core.specs.Growing.{pending_in}
use Rattle.image_core.specs.Committing.{uuids_in}
use Rattle.image_core.specs.declared.commit.FreezeFault.{FreezeFault}
use Rattle.image_core.specs.declared.commit.FreezeFault.TheVariants as freeze
use Rattle.tool_setup.specs.declared.command.Command.TheVariants.{Commit}
use Rattle.image_core.specs.declared.whole.WholeFault.{WholeFault}
use Rattle.image_core.specs.declared.whole.WholeFault.TheVariants as whole
use Rattle.image_core.specs.Parts.{parts_view}
use Rattle.image_core.specs.Seen.{Seen, StandsFor}
use Rattle.layer_commands.specs.declared.refusal.Refusal.{Refusal}
use Rattle.layer_commands.specs.declared.refusal.Refusal.TheVariants as refused
use Rattle.layer_commands.specs.Prints.{LayerSheet, AreLayers, heads_of}
use Rattle.layer_commands.specs.Causes.{IsOfCount, StopsAt}
use Rattle.layer_commands.specs.Input.{TakesSectors}
use Rattle.image_commands.specs.declared.refusal.ImageRefusal.{ImageRefusal}
use Rattle.image_commands.specs.declared.refusal.ImageRefusal.TheVariants.{Load, Other}
use Rattle.image_commands.specs.Images.{DiskPort, AreStackedFiles, LiesOver, IsNew, IsFound, IsFree, MayAsk, kept_change, commit_acts, committed_size, entries}
use Rattle.image_commands.specs.ImageReports.{committed_line, swept_line}
use Rattle.image_commands.specs.ImageCauses.{HaveOtherSize, HasSize, HoldsNone}

-- the sectors of the image
abbrev pub size_of : Seen → ℕ
size_of image = (parts_view image.parts).sectors

-- the image was opened over this base: the disk's files show it, over the shelf's layers, and its faults are those counted
abbrev pub IsBaseOf : Option (List (List ℕ)) → ℕ → DiskPort → Seen → Base → Type 0
IsBaseOf told count disk image base = LiesOver told count base × IsFound disk base × (base.faults ≡ disk.faults) × StandsFor image base []

-- an image that was opened: it stands for nothing done over some such base
abbrev pub IsOpened : Option (List (List ℕ)) → ℕ → DiskPort → Seen → Type 0
IsOpened told count disk image = (base : Base) × IsBaseOf told count disk image base

-- why no image was opened
abbrev pub OpenCause : Option (List (List ℕ)) → ℕ → (shelf shelf_now : ℕ) → (disk disk_now : DiskPort) → ImageRefusal → Type 0
OpenCause told count shelf shelf_now disk disk_now (Other refused.Memory) = Unit {0}
OpenCause told count shelf shelf_now disk disk_now (Other refused.DiskFault) = (disk.faults < disk_now.faults) × AreStackedFiles told count
OpenCause told count shelf shelf_now disk disk_now (Other refused.ShelfFault) = shelf < shelf_now
OpenCause told count shelf shelf_now disk disk_now (Other (refused.Layer number fault)) = IfSome told (λ files. StopsAt files number fault)
OpenCause told count shelf shelf_now disk disk_now (Other (refused.Stack fault)) =
    (1 ≤ count) × IsOfCount fault count × IfSome told (λ files. (layers : List LayerSheet) × AreLayers files layers × IsStackFault (heads_of layers) fault)
OpenCause told count shelf shelf_now disk disk_now (Load fault) = AreStackedFiles told count × HoldsNone told disk fault
OpenCause told count shelf shelf_now disk disk_now (Other other) = ⊥

-- every act but a read
abbrev pub is_no_read : Act → Bool
is_no_read (Read at count) = false
is_no_read (Write at bytes) = true
is_no_read (Zero at count) = true
is_no_read Flush = true
is_no_read (Freeze uuid) = true
is_no_read (Seal uuid) = true
is_no_read (Grow sectors) = true
is_no_read (Fault asked) = true

-- a history without its reads
abbrev pub without_reads : History → History
without_reads history = filter (λ e. is_no_read e.act) history

-- whatever the image stood for, it stands now for that with these acts behind it, and perhaps reads among them
pub record Adds (acts : History) (old new : Seen) : Type 0 where
  pub stands : (base : Base) (history : History) → StandsFor old base history
      → (more : History) × (without_reads more ≡ acts) × StandsFor new base (history ++ more)

-- a failed step that asked for this, and one that asked for nothing that is named
abbrev pub fault_of : Asked → History
fault_of asked = entry 0 (Fault asked) ∷ []

abbrev pub fault : History
fault = fault_of Nothing

-- the bytes are sectors of the image: so many, and which they are where the disk and the shelf tell
pub record AreSectors (image : Seen) (told : Option (List (List ℕ))) (at count : ℕ) (bytes : List ℕ) : Type 0 where
  pub long : length bytes ≡ 512 * count
  pub are : IsTrue image.tells → IfSome told (λ files. (base : Base) (history : History) → StandsFor image base history
      → base.lowers ≡ files → bytes ≡ reply base history at count)

-- sectors of the image were written
pub record WritesSectors (image : Seen) (told : Option (List (List ℕ))) (at count : ℕ) (old new : Option (List ℕ)) : Type 0 where
  pub bytes : List ℕ
  pub sectors : AreSectors image told at count bytes
  pub written : Appends old new bytes

-- a front of sectors of the image was written, of no more than so many
pub record WritesFront (image : Seen) (told : Option (List (List ℕ))) (at count : ℕ) (old new : Option (List ℕ)) : Type 0 where
  pub part : ℕ
  pub within : part ≤ count
  pub bytes : List ℕ
  pub sectors : AreSectors image told at part bytes
  pub front : AppendsFront old new bytes

-- why sectors were not all read and written
abbrev pub ReadCause : (old new : Seen) → (shelf shelf_now sink sink_now : ℕ) → Refusal → Type 0
ReadCause old new shelf shelf_now sink sink_now refused.Memory = Adds [] old new
ReadCause old new shelf shelf_now sink sink_now refused.DiskFault = (old.faults < new.faults) × Adds fault old new
ReadCause old new shelf shelf_now sink sink_now refused.ShelfFault = (shelf < shelf_now) × Adds [] old new
ReadCause old new shelf shelf_now sink sink_now refused.SinkFault = (sink < sink_now) × Adds [] old new
ReadCause old new shelf shelf_now sink sink_now other = ⊥

-- the top has used so many rows and sectors, and with those of the change it would be over what it may
pub record HasNoRoom (change : Act) (old new : Seen) (rows sectors : ℕ) : Type 0 where
  pub rows_are : rows ≡ (parts_view old.parts).rows
  pub sectors_are : sectors ≡ (parts_view old.parts).filled
  pub over : IsOver (rows + rows_taken change) (sectors + sectors_taken change)
  pub adds : Adds [] old new

-- why a change of an image and the flush behind it were not both done
abbrev pub ChangeCause : Act → (old new : Seen) → Refusal → Type 0
ChangeCause change old new refused.Memory = Adds [] old new
ChangeCause change old new refused.DiskFault =
    (old.faults < new.faults) × ((front : History) × StartsWith (entries (kept_change change)) front × Adds (front ++ fault) old new)
ChangeCause change old new (refused.Full rows sectors) = HasNoRoom change old new rows sectors
ChangeCause change old new other = ⊥

-- what the fault of a change is refused as
abbrev pub change_refused_as : WriteFault → Refusal
change_refused_as (write.Full rows sectors) = refused.Full rows sectors
change_refused_as write.Memory = refused.Memory
change_refused_as write.Failed = refused.DiskFault

-- what the fault of a grow is refused as
abbrev pub grow_refused_as : GrowFault → Refusal
grow_refused_as (grow.Busy uuid) = refused.Busy uuid
grow_refused_as (grow.NotLarger sectors) = refused.NotLarger sectors
grow_refused_as grow.Failed = refused.DiskFault

-- a step was refused, and nothing of the image or its disk is another
pub record NoStep (old new : Seen) : Type 0 where
  pub adds : Adds [] old new
  pub same : Quiet old.state new.state

-- why an image did not grow to so many sectors
abbrev pub GrowCause : ℕ → (old new : Seen) → Refusal → Type 0
GrowCause sectors old new (refused.Busy uuid) = (pending_in (parts_view old.parts) ≡ Some uuid) × NoStep old new
GrowCause sectors old new (refused.NotLarger n) =
    (pending_in (parts_view old.parts) ≡ None) × (n ≡ size_of old) × (sectors ≤ n) × NoStep old new
GrowCause sectors old new refused.DiskFault = (old.faults < new.faults) × Adds (fault_of (Sectors sectors)) old new
GrowCause sectors old new other = ⊥

-- why a grow and the line that tells of it were not both done, and what was written then
abbrev pub GrowTold : ℕ → List ℕ → (old new : Seen) → (sink sink_now : ℕ) → (written written_now : Option (List ℕ)) → Refusal → Type 0
GrowTold sectors line old new sink sink_now written written_now refused.Memory = Adds [] old new × Keeps written written_now
GrowTold sectors line old new sink sink_now written written_now refused.DiskFault =
    GrowCause sectors old new refused.DiskFault × Keeps written written_now
GrowTold sectors line old new sink sink_now written written_now (refused.Busy uuid) =
    GrowCause sectors old new (refused.Busy uuid) × Keeps written written_now
GrowTold sectors line old new sink sink_now written written_now (refused.NotLarger n) =
    GrowCause sectors old new (refused.NotLarger n) × Keeps written written_now
GrowTold sectors line old new sink sink_now written written_now refused.SinkFault =
    (sink < sink_now) × Adds (entries (Grow sectors ∷ [])) old new × AppendsFront written written_now line
GrowTold sectors line old new sink sink_now written written_now other = ⊥

-- whatever the image stood for, it stands for that now
abbrev pub IsAsBefore : (old new : Seen) → Type 0
IsAsBefore old new = (base : Base) (history : History) → StandsFor old base history → StandsFor new base history

-- what the fault of a freeze is refused as
abbrev pub freeze_refused_as : FreezeFault → Refusal
freeze_refused_as (freeze.Busy uuid) = refused.Busy uuid
freeze_refused_as freeze.TooMany = refused.TooManyLayers
freeze_refused_as freeze.UuidTwice = refused.UuidTwice
freeze_refused_as freeze.Memory = refused.Memory
freeze_refused_as freeze.Failed = refused.DiskFault

-- a beginning of the acts was done, with a failed step behind it that asked for one of these, or with none
abbrev pub AddsFront : History → (Asked → Type 0) → (old new : Seen) → Type 0
AddsFront acts asks old new =
    (front : History) × StartsWith acts front
    × (Adds front old new ⊎ ((asked : Asked) × asks asked × Adds (front ++ fault_of asked) old new))

-- why the top was not committed with this uuid, or the size of its file was not told
abbrev pub CommitCause : List ℕ → (old new : Seen) → Refusal → Type 0
CommitCause uuid old new (refused.Busy other) =
    (pending_in (parts_view old.parts) ≡ Some other) × (other ≢ uuid) × NoStep old new
CommitCause uuid old new refused.TooManyLayers =
    (pending_in (parts_view old.parts) ≡ None) × (255 ≤ length (uuids_in (parts_view old.parts))) × NoStep old new
CommitCause uuid old new refused.UuidTwice =
    (pending_in (parts_view old.parts) ≡ None) × (length (uuids_in (parts_view old.parts)) < 255)
    × Contains (uuids_in (parts_view old.parts)) uuid × NoStep old new
CommitCause uuid old new refused.Memory = IsFree uuid (pending_in (parts_view old.parts)) × Adds [] old new
CommitCause uuid old new refused.DiskFault =
    IsFree uuid (pending_in (parts_view old.parts)) × (old.faults < new.faults)
    × AddsFront (entries (commit_acts uuid (pending_in (parts_view old.parts)))) (MayAsk (Commit uuid)) old new
CommitCause uuid old new other = ⊥

-- so many bytes has the file that a commit of the image, as it was opened, makes
abbrev pub IsCommitSize : List ℕ → Seen → ℕ → Type 0
IsCommitSize uuid old size = (base : Base) → StandsFor old base [] → IsTrue old.tells → size ≡ committed_size uuid base

-- the text is what a commit of the image prints
abbrev pub SaysCommit : List ℕ → Seen → List ℕ → Type 0
SaysCommit uuid old text =
    (size : ℕ) × (text ≡ committed_line uuid (length (parts_view old.parts).committed) size) × IsCommitSize uuid old size

-- it was written, or a front of it
abbrev pub TellsCommit : List ℕ → Seen → (written written_now : Option (List ℕ)) → Type 0
TellsCommit uuid old written written_now = (text : List ℕ) × SaysCommit uuid old text × Appends written written_now text

abbrev pub TellsFront : List ℕ → Seen → (written written_now : Option (List ℕ)) → Type 0
TellsFront uuid old written written_now = (text : List ℕ) × SaysCommit uuid old text × AppendsFront written written_now text

-- why a commit and the line that tells of it were not both done, and what was written then
abbrev pub CommitTold : List ℕ → (old new : Seen) → (sink sink_now : ℕ) → (written written_now : Option (List ℕ)) → Refusal → Type 0
CommitTold uuid old new sink sink_now written written_now refused.SinkFault =
    IsFree uuid (pending_in (parts_view old.parts)) × (sink < sink_now)
    × Adds (entries (commit_acts uuid (pending_in (parts_view old.parts)))) old new × TellsFront uuid old written written_now
CommitTold uuid old new sink sink_now written written_now refusal = CommitCause uuid old new refusal × Keeps written written_now

-- why a sweep and the line that tells of it were not both done, and what was written then
abbrev pub SweepTold : (old new : Seen) → (sink sink_now : ℕ) → (written written_now : Option (List ℕ)) → Refusal → Type 0
SweepTold old new sink sink_now written written_now refused.DiskFault =
    (old.faults < new.faults) × Adds fault old new × Keeps written written_now
SweepTold old new sink sink_now written written_now refused.SinkFault =
    (sink < sink_now) × Adds [] old new
    × AppendsFront written written_now (swept_line (length (parts_view old.parts).committed))
SweepTold old new sink sink_now written written_now other = ⊥

-- the disk of an image
abbrev pub port_of : Seen → DiskPort
port_of image = record { tells = image.tells; state = image.state; faults = image.faults }

-- why a change, the flush behind it and the line that tells of it were not all done, and what was written then
abbrev pub TellCause : Act → List ℕ → (old new : Seen) → (sink sink_now : ℕ) → (written written_now : Option (List ℕ)) → Refusal → Type 0
TellCause change line old new sink sink_now written written_now refused.Memory =
    Adds [] old new × Keeps written written_now
TellCause change line old new sink sink_now written written_now refused.DiskFault =
    ChangeCause change old new refused.DiskFault × Keeps written written_now
TellCause change line old new sink sink_now written written_now (refused.Full rows sectors) =
    HasNoRoom change old new rows sectors × Keeps written written_now
TellCause change line old new sink sink_now written written_now refused.SinkFault =
    (sink < sink_now) × Adds (entries (kept_change change)) old new × AppendsFront written written_now line
TellCause change line old new sink sink_now written written_now other = ⊥

-- an image that was made: it stands for nothing done over a new base, over the shelf's layers
abbrev pub IsMade : Option ℕ → Option (List (List ℕ)) → ℕ → DiskPort → Seen → Type 0
IsMade asked told count disk image =
    (base : Base) × LiesOver told count base × IsNew asked count disk base × StandsFor image base []

-- the size that was asked for is below that of the uppermost layer
abbrev pub IsOtherSize : Option ℕ → List LayerIndex → Type 0
IsOtherSize asked layers = (sectors : ℕ) × (asked ≡ Some sectors) × (sectors < upper_sectors layers)

-- why there is no size for a new image over these layers
abbrev pub SizeCause : Option ℕ → List LayerIndex → Refusal → Type 0
SizeCause asked layers refused.NoSize = (asked ≡ None) × (length layers ≡ 0)
SizeCause asked layers refused.OtherSize = IsOtherSize asked layers
SizeCause asked layers other = ⊥

-- what a fault of a creation is refused as
abbrev pub create_refused_as : CreateFault → Refusal
create_refused_as create.Exists = refused.ImageExists
create_refused_as create.Memory = refused.Memory
create_refused_as create.Failed = refused.DiskFault

-- why no image was made, and what stands of the disk then
abbrev pub MakeCause : Option ℕ → Option (List (List ℕ)) → ℕ → (shelf shelf_now : ℕ) → (disk disk_now : DiskPort) → Refusal → Type 0
MakeCause asked told count shelf shelf_now disk disk_now refused.Memory = Quiet disk.state disk_now.state
MakeCause asked told count shelf shelf_now disk disk_now refused.DiskFault =
    (disk.faults < disk_now.faults) × HasSize asked told count × AreStackedFiles told count
    × (Quiet disk.state disk_now.state ⊎ (IsTrue disk.tells → mark_of (disk.state.seen manifest_file) ≡ None))
MakeCause asked told count shelf shelf_now disk disk_now refused.ShelfFault = (shelf < shelf_now) × Quiet disk.state disk_now.state
MakeCause asked told count shelf shelf_now disk disk_now (refused.Layer number reason) =
    IfSome told (λ files. StopsAt files number reason) × Quiet disk.state disk_now.state
MakeCause asked told count shelf shelf_now disk disk_now (refused.Stack reason) =
    (1 ≤ count) × IsOfCount reason count × IfSome told (λ files. (layers : List LayerSheet) × AreLayers files layers × IsStackFault (heads_of layers) reason)
    × Quiet disk.state disk_now.state
MakeCause asked told count shelf shelf_now disk disk_now refused.NoSize = (asked ≡ None) × (count ≡ 0) × Quiet disk.state disk_now.state
MakeCause asked told count shelf shelf_now disk disk_now refused.OtherSize =
    ((sectors : ℕ) × (asked ≡ Some sectors) × (1 ≤ count) × (count ≤ 255) × IfSome told (λ files. HaveOtherSize files sectors)) × Quiet disk.state disk_now.state
MakeCause asked told count shelf shelf_now disk disk_now refused.ImageExists =
    HasSize asked told count × AreStackedFiles told count × (IsTrue disk.tells → mark_of (disk.state.seen manifest_file) ≢ None) × Quiet disk.state disk_now.state
MakeCause asked told count shelf shelf_now disk disk_now other = ⊥

-- what the fault of a whole read is refused as
abbrev pub whole_cause : WholeFault → Refusal
whole_cause whole.Memory = refused.Memory
whole_cause whole.DiskFault = refused.DiskFault
whole_cause whole.ShelfFault = refused.ShelfFault

-- why the bytes of a source are not taken for a write; where memory is wanting, what was taken is whole sectors
abbrev pub IsSourceRefusal : Option (List ℕ) → Option (List ℕ) → Refusal → Type 0
IsSourceRefusal left left_now refused.SourceFault = ⊤
IsSourceRefusal left left_now refused.TooLong = IfSome left (λ file. 33554432 < length file)
IsSourceRefusal left left_now refused.NotWholeSectors = IfSome left (λ file. (length file ≤ 33554432) × (length file % 512 ≢ 0))
IsSourceRefusal left left_now refused.Memory = TakesSectors left left_now 33554432
IsSourceRefusal left left_now other = ⊥

-- the answer of a call on an image, as that of the command
abbrev pub told_as : Result (Unit {0}) Refusal → Result (Unit {0}) ImageRefusal
told_as (Ok done) = Ok done
told_as (Err refusal) = Err (Other refusal)
