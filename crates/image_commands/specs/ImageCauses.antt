-- Why the image commands are refused, and what stands after it: each as the first in the order in which a command looks at
-- the source, the shelf's layers, their stack, the size, the disk, the range and the room.
use Rattle.std.specs.Prelude.{◌≡◌, ◌≢◌, ℕ, ◌+◌, ◌%◌, ◌<◌, ◌≤◌, ◌⊎◌, IsTrue, List, [], ◌++◌, length, map, Contains, Option, Some, None, IfSome, ⊤}
use Rattle.std.specs.Io.KnownBytes.{Keeps}
use Rattle.block_disk.specs.Claims.{Quiet}
use Rattle.gate_mark.specs.MarkFile.{mark_of}
use Rattle.flat_image.specs.declared.act.Act.{Act}
use Rattle.flat_image.specs.declared.base.Base.{Base}
use Rattle.flat_image.specs.Base.{pending_of}
use Rattle.flat_image.specs.LayerReading.{uuid_in}
use Rattle.flat_image.specs.History.{IsOver, rows_taken, sectors_taken}
use Rattle.flat_image.specs.Stacks.{Legal}
use Rattle.layer_stack.specs.Faults.{IsStackFault}
use Rattle.sealed_layer.specs.Layers.{LayerIndex}
use Rattle.image_core.specs.declared.loading.LoadFault.{LoadFault}
use Rattle.image_core.specs.Numbers.{manifest_file}
use Rattle.image_core.specs.View.{AreLayersOf}
use Rattle.image_core.specs.Loading.{IsLoadReason}
use Rattle.tool_setup.specs.declared.command.Command.{Command}
use Rattle.tool_setup.specs.declared.command.Command.TheVariants.{Flatten, Info, Stack, Create, Grow, Read, Write, Zero, Commit, Sweep, Make, Export}
use Rattle.layer_commands.specs.declared.refusal.Refusal.{Refusal}
use Rattle.layer_commands.specs.declared.refusal.Refusal.TheVariants as refused
use Rattle.layer_commands.specs.Prints.{LayerSheet, AreLayers, heads_of, sectors_of}
use Rattle.layer_commands.specs.Ports.{Ports}
use Rattle.layer_commands.specs.Input.{TakesSectors}
use Rattle.layer_commands.specs.Causes.{IsOfCount, StopsAt}
use Rattle.image_core.specs.declared.loading.LoadFault.TheVariants as load
use Rattle.image_commands.specs.declared.refusal.ImageRefusal.{ImageRefusal}
use Rattle.image_commands.specs.declared.refusal.ImageRefusal.TheVariants.{Load, Other}
use Rattle.image_commands.specs.Images.{DiskPort, Takes, kept_change, acts_of, entries_of, reach_of, AreStackedFiles, LiesOver, IsFound, Opens, LeavesOf, Began}

-- nothing was written, and the disk is as it was
pub record Untouched (before now : Ports) (disk disk_now : DiskPort) : Type 0 where
  pub sink : Keeps before.written now.written
  pub same : Quiet disk.state disk_now.state

-- a command that takes the source; one that makes an image; one that reads its sectors
abbrev pub IsWrite : Command → Type 0
IsWrite command = (at : ℕ) × (command ≡ Write at)

abbrev pub IsCreate : Command → Type 0
IsCreate command = (asked : Option ℕ) × (command ≡ Create asked)

abbrev pub IsRead : Command → Type 0
IsRead command = (at : ℕ) × (count : ℕ) × (command ≡ Read at count)

-- what the command takes of the source is there
abbrev pub IsFed : Command → Ports → Type 0
IsFed command before = (bytes : List ℕ) × Takes command before.left bytes

-- what was taken of the source is whole sectors, and no more than the command takes
abbrev pub IsPartFed : Command → Ports → Ports → Type 0
IsPartFed (Write at) before now = TakesSectors before.left now.left 33554432
IsPartFed (Flatten stdin) before now = ⊤
IsPartFed (Info number) before now = ⊤
IsPartFed Stack before now = ⊤
IsPartFed (Grow sectors) before now = ⊤
IsPartFed (Commit uuid) before now = ⊤
IsPartFed Sweep before now = ⊤
IsPartFed (Make seed acts) before now = ⊤
IsPartFed (Export connections) before now = ⊤
IsPartFed (Create asked) before now = ⊤
IsPartFed (Read at count) before now = ⊤
IsPartFed (Zero at count) before now = ⊤

-- layers of which the uppermost has more sectors than that
abbrev pub HaveOtherSize : List (List ℕ) → ℕ → Type 0
HaveOtherSize files sectors = (layers : List LayerSheet) × AreLayers files layers × Legal (heads_of layers) × (sectors < sectors_of layers)

-- layers of which the uppermost has no more sectors, or none
abbrev pub HaveOwnSize : List (List ℕ) → ℕ → Type 0
HaveOwnSize files sectors = (layers : List LayerSheet) × AreLayers files layers × (1 ≤ length files → sectors_of layers ≤ sectors)

-- there is a size for a new image
abbrev pub HasSize : Option ℕ → Option (List (List ℕ)) → ℕ → Type 0
HasSize None told count = 1 ≤ count
HasSize (Some sectors) told count = IfSome told (λ files. HaveOwnSize files sectors)

-- layers in memory, read of the shelf's files
abbrev pub AreReadOf : Option (List (List ℕ)) → List LayerIndex → Type 0
AreReadOf told layers = IfSome told (λ files. AreLayersOf files layers)

-- this is a fault of an image's files, and not the disk's or want of memory
abbrev pub IsOfImage : LoadFault → Type 0
IsOfImage fault = (fault ≢ load.Failed) × (fault ≢ load.Memory)

-- the disk holds no image over the shelf's layers, for this reason
pub record HoldsNone (told : Option (List (List ℕ))) (disk : DiskPort) (fault : LoadFault) : Type 0 where
  pub layers : List LayerIndex
  pub read : AreReadOf told layers
  pub reason : IsTrue disk.tells → IsLoadReason disk.state.seen layers fault
  pub of_image : IsOfImage fault

-- the command speaks of sectors behind the image's end
pub record GoesPast (command : Command) (before : Ports) (disk disk_now : DiskPort) : Type 0 where
  pub bytes : List ℕ
  pub base : Base
  pub opens : Opens command before disk bytes base
  pub past : base.sectors < reach_of command bytes
  pub crash : LeavesOf disk_now base []

-- the top has used so many rows and sectors, and with those of the change it would be over what it may
pub record IsFull (command : Command) (before : Ports) (disk disk_now : DiskPort) (rows sectors : ℕ) : Type 0 where
  pub bytes : List ℕ
  pub base : Base
  pub opens : Opens command before disk bytes base
  pub within : reach_of command bytes ≤ base.sectors
  pub change : Act
  pub asked : acts_of command bytes (pending_of base.frozen) ≡ kept_change change
  pub rows_are : rows ≡ base.rows
  pub sectors_are : sectors ≡ base.filled
  pub over : IsOver (base.rows + rows_taken change) (base.filled + sectors_taken change)
  pub crash : LeavesOf disk_now base []

-- the commit of this uuid stops the command: a grow any, and a commit another one's
abbrev pub IsStoppedBy : Command → List ℕ → Type 0
IsStoppedBy (Grow sectors) other = ⊤
IsStoppedBy (Commit uuid) other = other ≢ uuid
IsStoppedBy (Flatten stdin) other = ⊥
IsStoppedBy (Info number) other = ⊥
IsStoppedBy Stack other = ⊥
IsStoppedBy Sweep other = ⊥
IsStoppedBy (Make seed acts) other = ⊥
IsStoppedBy (Export connections) other = ⊥
IsStoppedBy (Create asked) other = ⊥
IsStoppedBy (Read at count) other = ⊥
IsStoppedBy (Write at) other = ⊥
IsStoppedBy (Zero at count) other = ⊥

-- the image has the commit of this uuid in progress, which stops the command
pub record HasCommit (command : Command) (before : Ports) (disk : DiskPort) (uuid : List ℕ) : Type 0 where
  pub stops : IsStoppedBy command uuid
  pub base : Base
  pub over : LiesOver before.files before.count base
  pub found : IsFound disk base
  pub pending : pending_of base.frozen ≡ Some uuid

-- the image that was to be committed with this uuid has as many layers as there may be, or else it has a layer with that
-- uuid; and no commit is in progress
pub record HasMostLayers (command : Command) (before : Ports) (disk : DiskPort) : Type 0 where
  pub uuid : List ℕ
  pub commits : command ≡ Commit uuid
  pub base : Base
  pub opens : Opens command before disk [] base
  pub free : pending_of base.frozen ≡ None
  pub many : 255 ≤ length (base.lowers ++ base.done)

pub record HasLayerOf (command : Command) (before : Ports) (disk : DiskPort) : Type 0 where
  pub uuid : List ℕ
  pub commits : command ≡ Commit uuid
  pub base : Base
  pub opens : Opens command before disk [] base
  pub free : pending_of base.frozen ≡ None
  pub few : length (base.lowers ++ base.done) < 255
  pub twice : Contains (map uuid_in (base.lowers ++ base.done)) uuid

-- the image has so many sectors, no fewer than it was to have, and no commit is in progress
pub record IsAsLarge (command : Command) (before : Ports) (disk : DiskPort) (sectors : ℕ) : Type 0 where
  pub wanted : ℕ
  pub grows : command ≡ Grow wanted
  pub base : Base
  pub opens : Opens command before disk [] base
  pub free : pending_of base.frozen ≡ None
  pub is : sectors ≡ base.sectors
  pub within : wanted ≤ base.sectors

-- a creation failed on a disk that held no image, and of the disk nothing more is said
abbrev pub FailsToMake : Command → Ports → Ports → DiskPort → Type 0
FailsToMake command before now disk =
    IsCreate command × (IsTrue disk.tells → mark_of (disk.state.seen manifest_file) ≡ None) × Keeps before.written now.written

-- The disk failed when source, layers, stack and a new image's size had been in order. Nothing was written but by a read.
pub record DiskFailed (command : Command) (before now : Ports) (disk disk_now : DiskPort) : Type 0 where
  pub rose : disk.faults < disk_now.faults
  pub fed : IsFed command before
  pub stacked : AreStackedFiles before.files before.count
  pub size : (asked : Option ℕ) → command ≡ Create asked → HasSize asked before.files before.count
  pub silent : IsRead command ⊎ Keeps before.written now.written
  pub stands : Untouched before now disk disk_now ⊎ FailsToMake command before now disk ⊎ Began command before now disk disk_now

-- an image was opened, and nothing was done to it; nothing was written but by a read
pub record OpenedOnly (command : Command) (before now : Ports) (disk disk_now : DiskPort) : Type 0 where
  pub opened : IsCreate command → ⊥
  pub began : Began command before now disk disk_now
  pub none : began.history ≡ []
  pub silent : IsRead command ⊎ Keeps before.written now.written

-- all acts of the command were done, and a front of what it prints was written
pub record ActsAll (command : Command) (before now : Ports) (disk disk_now : DiskPort) : Type 0 where
  pub began : Began command before now disk disk_now
  pub all : began.history ≡ entries_of command began.bytes (pending_of began.base.frozen)

-- The cause of a refusal of an image command, and what stands after it. Where memory is wanting, what was taken of the source
-- is no more than a write takes, and no image was made or changed.
abbrev pub ImageCause : Command → Ports → Ports → DiskPort → DiskPort → Refusal → Type 0
ImageCause command before now disk disk_now refused.SourceFault =
    IsWrite command × (before.source_faults < now.source_faults) × Untouched before now disk disk_now
ImageCause command before now disk disk_now refused.TooLong =
    IsWrite command × IfSome before.left (λ all. 33554432 < length all) × Untouched before now disk disk_now
ImageCause command before now disk disk_now refused.NotWholeSectors =
    IsWrite command × IfSome before.left (λ all. (length all ≤ 33554432) × (length all % 512 ≢ 0)) × Untouched before now disk disk_now
ImageCause command before now disk disk_now (refused.Layer number fault) =
    IsFed command before × IfSome before.files (λ files. StopsAt files number fault) × Untouched before now disk disk_now
ImageCause command before now disk disk_now (refused.Stack fault) =
    IsFed command before × (1 ≤ before.count) × IsOfCount fault before.count
    × IfSome before.files (λ files. (layers : List LayerSheet) × AreLayers files layers × IsStackFault (heads_of layers) fault)
    × Untouched before now disk disk_now
ImageCause command before now disk disk_now refused.NoSize =
    (command ≡ Create None) × (before.count ≡ 0) × Untouched before now disk disk_now
ImageCause command before now disk disk_now refused.OtherSize =
    ((sectors : ℕ) × (command ≡ Create (Some sectors)) × (1 ≤ before.count) × (before.count ≤ 255) × IfSome before.files (λ files. HaveOtherSize files sectors))
    × Untouched before now disk disk_now
ImageCause command before now disk disk_now refused.ImageExists =
    ((asked : Option ℕ) × (command ≡ Create asked) × HasSize asked before.files before.count) × AreStackedFiles before.files before.count
    × (IsTrue disk.tells → mark_of (disk.state.seen manifest_file) ≢ None) × Untouched before now disk disk_now
ImageCause command before now disk disk_now refused.OutOfRange =
    GoesPast command before disk disk_now × Untouched before now disk disk_now
ImageCause command before now disk disk_now (refused.Full rows sectors) =
    IsFull command before disk disk_now rows sectors × Keeps before.written now.written
ImageCause command before now disk disk_now (refused.Busy uuid) =
    HasCommit command before disk uuid × Untouched before now disk disk_now
ImageCause command before now disk disk_now (refused.NotLarger sectors) =
    IsAsLarge command before disk sectors × Untouched before now disk disk_now
ImageCause command before now disk disk_now refused.TooManyLayers =
    HasMostLayers command before disk × Untouched before now disk disk_now
ImageCause command before now disk disk_now refused.UuidTwice =
    HasLayerOf command before disk × Untouched before now disk disk_now
ImageCause command before now disk disk_now refused.DiskFault = DiskFailed command before now disk disk_now
ImageCause command before now disk disk_now refused.ShelfFault =
    (before.shelf_faults < now.shelf_faults) × IsFed command before
    × (Untouched before now disk disk_now ⊎ (IsRead command × OpenedOnly command before now disk disk_now))
ImageCause command before now disk disk_now refused.SinkFault =
    (before.sink_faults < now.sink_faults) × ActsAll command before now disk disk_now
ImageCause command before now disk disk_now refused.Memory =
    IsPartFed command before now × (Untouched before now disk disk_now ⊎ OpenedOnly command before now disk disk_now)
ImageCause command before now disk disk_now refused.Usage = ⊥
ImageCause command before now disk disk_now refused.NoLayer = ⊥

-- the same of any refusal: another cause, or that the disk holds no image over the layers
abbrev pub CommandCause : Command → Ports → Ports → DiskPort → DiskPort → ImageRefusal → Type 0
CommandCause command before now disk disk_now (Other refusal) = ImageCause command before now disk disk_now refusal
CommandCause command before now disk disk_now (Load fault) =
    (IsCreate command → ⊥) × IsFed command before × AreStackedFiles before.files before.count × HoldsNone before.files disk fault × Untouched before now disk disk_now
