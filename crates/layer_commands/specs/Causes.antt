-- When a command over layers is refused, and what it has written then.
use Rattle.std.specs.Prelude.{◌≡◌, ◌≢◌, ℕ, ◌+◌, ◌^◌, ◌<◌, ◌≤◌, ◌⊎◌, true, false, List, length, take, IfSome, ⊤}
use Rattle.std.specs.Io.KnownBytes.{Appends, Keeps}
use Rattle.byte_ports.specs.Ports.{AppendsFront}
use Rattle.layer_shelf.specs.Shelves.{file_at}
use Rattle.layer_stack.specs.Faults.{IsStackFault}
use Rattle.layer_stack.specs.declared.fault.StackFault.{StackFault}
use Rattle.layer_stack.specs.declared.fault.StackFault.TheVariants as stack
use Rattle.sealed_layer.specs.LayerFaults.{IsLayerFault}
use Rattle.sealed_layer.specs.declared.fault.LayerFault.{LayerFault}
use Rattle.sealed_layer.specs.declared.fault.LayerFault.TheVariants as file
use Rattle.sector_extent.specs.Causes.{Charges}
use Rattle.tool_setup.specs.declared.command.Command.{Command}
use Rattle.tool_setup.specs.declared.command.Command.TheVariants.{Flatten, Info, Stack, Create, Grow, Read, Write, Zero, Commit, Sweep, Make, Export}
use Rattle.layer_commands.specs.declared.refusal.Refusal.{Refusal}
use Rattle.layer_commands.specs.declared.refusal.Refusal.TheVariants as refused
use Rattle.layer_commands.specs.Prints.{LayerSheet, AreLayers, AreShort, heads_of, input_limit, read_by, Prints}
use Rattle.layer_commands.specs.Ports.{Ports, Notes, TakesAtMost}

-- all that the command prints was written, where what it reads is told
abbrev pub PrintsAll : Command → Ports → Ports → Type 0
PrintsAll command before now =
    IfSome (read_by command before.left before.files) (λ files. (bytes : List ℕ) × Prints command files bytes × Appends before.written now.written bytes)

-- of what the command prints where it succeeds, a front was written
abbrev pub PrintsFront : Command → Ports → Ports → Type 0
PrintsFront command before now =
    IfSome (read_by command before.left before.files) (λ files. (bytes : List ℕ) × Prints command files bytes × AppendsFront before.written now.written bytes)

-- nothing was written
abbrev pub PrintsNothing : Ports → Ports → Type 0
PrintsNothing before now = Keeps before.written now.written

-- a command that makes no image and opens none
abbrev pub IsOverLayers : Command → Type 0
IsOverLayers (Flatten stdin) = ⊤
IsOverLayers (Info number) = ⊤
IsOverLayers Stack = ⊤
IsOverLayers (Create asked) = ⊥
IsOverLayers (Grow sectors) = ⊥
IsOverLayers (Commit uuid) = ⊥
IsOverLayers Sweep = ⊥
IsOverLayers (Make seed acts) = ⊥
IsOverLayers (Export connections) = ⊥
IsOverLayers (Read at count) = ⊥
IsOverLayers (Write at) = ⊥
IsOverLayers (Zero at count) = ⊥

-- the command reads the source
abbrev pub ReadsSource : Command → Type 0
ReadsSource (Flatten true) = ⊤
ReadsSource (Flatten false) = ⊥
ReadsSource (Info number) = ⊥
ReadsSource Stack = ⊥
ReadsSource (Create asked) = ⊥
ReadsSource (Grow sectors) = ⊥
ReadsSource (Commit uuid) = ⊥
ReadsSource Sweep = ⊥
ReadsSource (Make seed acts) = ⊥
ReadsSource (Export connections) = ⊥
ReadsSource (Read at count) = ⊥
ReadsSource (Write at) = ⊤
ReadsSource (Zero at count) = ⊥

-- the command is one over the layers of the shelf, which have to be a stack
abbrev pub ReadsStack : Command → Type 0
ReadsStack (Flatten true) = ⊥
ReadsStack (Flatten false) = ⊤
ReadsStack (Info number) = ⊥
ReadsStack Stack = ⊤
ReadsStack (Create asked) = ⊥
ReadsStack (Grow sectors) = ⊥
ReadsStack (Commit uuid) = ⊥
ReadsStack Sweep = ⊥
ReadsStack (Make seed acts) = ⊥
ReadsStack (Export connections) = ⊥
ReadsStack (Read at count) = ⊥
ReadsStack (Write at) = ⊥
ReadsStack (Zero at count) = ⊥

-- the command asks for a layer whose number is not below the shelf's count
abbrev pub IsMissing : Command → ℕ → Type 0
IsMissing (Flatten stdin) count = ⊥
IsMissing (Info number) count = count ≤ number
IsMissing Stack count = ⊥
IsMissing (Create asked) count = ⊥
IsMissing (Grow sectors) count = ⊥
IsMissing (Commit uuid) count = ⊥
IsMissing Sweep count = ⊥
IsMissing (Make seed acts) count = ⊥
IsMissing (Export connections) count = ⊥
IsMissing (Read at layers) count = ⊥
IsMissing (Write at) count = ⊥
IsMissing (Zero at layers) count = ⊥

-- this is a fault of a file, and not the shelf's or want of memory
abbrev pub IsOfFile : LayerFault → Type 0
IsOfFile fault = (fault ≢ file.Failed) × (fault ≢ file.Memory)

-- the file of that number is the first that is no layer, for this fault
pub record StopsAt (files : List (List ℕ)) (number : ℕ) (fault : LayerFault) : Type 0 where
  pub within : number < length files
  pub below : List LayerSheet
  pub before : AreLayers (take number files) below
  pub here : IsLayerFault (file_at files number) fault
  pub of_file : IsOfFile fault

-- of the files that a command reads this one is the first that is no layer
abbrev pub IsBadLayer : Command → List (List ℕ) → ℕ → LayerFault → Type 0
IsBadLayer (Flatten true) files number fault = AreShort files × StopsAt files number fault
IsBadLayer (Flatten false) files number fault = StopsAt files number fault
IsBadLayer (Info wanted) files number fault = (number ≡ wanted) × (number < length files) × IsLayerFault (file_at files number) fault × IsOfFile fault
IsBadLayer Stack files number fault = StopsAt files number fault
IsBadLayer (Create asked) files number fault = StopsAt files number fault
IsBadLayer (Grow sectors) files number fault = ⊥
IsBadLayer (Commit uuid) files number fault = ⊥
IsBadLayer Sweep files number fault = ⊥
IsBadLayer (Make seed acts) files number fault = ⊥
IsBadLayer (Export connections) files number fault = ⊥
IsBadLayer (Read at count) files number fault = StopsAt files number fault
IsBadLayer (Write at) files number fault = StopsAt files number fault
IsBadLayer (Zero at count) files number fault = StopsAt files number fault

-- what the number of layers says of a fault of their stack
abbrev pub IsOfCount : StackFault → ℕ → Type 0
IsOfCount stack.Empty count = count ≡ 0
IsOfCount (stack.TooMany number) count = (number ≡ count) × (255 < count)
IsOfCount (stack.SizeDiffers number) count = (1 ≤ count) × (count ≤ 255)
IsOfCount (stack.ParentDiffers number) count = (1 ≤ count) × (count ≤ 255)
IsOfCount (stack.UuidTwice first second) count = (1 ≤ count) × (count ≤ 255)

-- The cause of a refusal of a command over layers, and what stands after it. That an object's fault is told just where it
-- failed is AreCharged, what the shelf's count alone says is IsCounted.
abbrev pub Cause : Command → Ports → Ports → Refusal → Type 0
Cause command before now refused.SourceFault = ReadsSource command × PrintsNothing before now
Cause command before now refused.TooLong = ReadsSource command × IfSome before.left (λ file. input_limit command < length file) × PrintsNothing before now
Cause command before now refused.NoLayer = IsMissing command before.count × PrintsNothing before now
Cause command before now (refused.Layer number fault) =
    IfSome (read_by command before.left before.files) (λ files. IsBadLayer command files number fault) × PrintsNothing before now
Cause command before now (refused.Stack fault) =
    ReadsStack command × IsOfCount fault before.count × IfSome before.files (λ files. (layers : List LayerSheet) × AreLayers files layers × IsStackFault (heads_of layers) fault) × PrintsNothing before now
Cause command before now refused.ShelfFault = (ReadsSource command → ⊥) × (PrintsNothing before now ⊎ PrintsFront command before now)
Cause command before now refused.SinkFault = PrintsFront command before now
Cause command before now refused.Memory = TakesAtMost before.left now.left (input_limit command) × (PrintsNothing before now ⊎ PrintsFront command before now)
Cause command before now refused.Usage = ⊥
Cause command before now refused.DiskFault = ⊥
Cause command before now refused.NotWholeSectors = ⊥
Cause command before now refused.NoSize = ⊥
Cause command before now refused.OtherSize = ⊥
Cause command before now refused.ImageExists = ⊥
Cause command before now refused.OutOfRange = ⊥
Cause command before now (refused.Full rows sectors) = ⊥
Cause command before now (refused.Busy uuid) = ⊥
Cause command before now (refused.NotLarger sectors) = ⊥
Cause command before now refused.TooManyLayers = ⊥
Cause command before now refused.UuidTwice = ⊥

-- The count of each object's faults never falls in a run, and it rises just where the run is refused as that object's fault.
pub record AreCharged (before now : Ports) (told : Refusal → Type 0) : Type 0 where
  pub source : Charges (λ ports. ports.source_faults) before now (told refused.SourceFault)
  pub sink : Charges (λ ports. ports.sink_faults) before now (told refused.SinkFault)
  pub shelf : Charges (λ ports. ports.shelf_faults) before now (told refused.ShelfFault)

-- What the number of the shelf's files alone says of a run, also where the shelf does not tell its files; `told` says as what it
-- was refused, `done` that it was not.
pub record IsCounted (command : Command) (count : ℕ) (told : Refusal → Type 0) (done : Type 0) : Type 0 where
  pub missing : IsMissing command count → told refused.NoLayer
  pub empty : ReadsStack command → count ≡ 0 → told (refused.Stack stack.Empty)
  pub few : done → ReadsStack command → count ≤ 255
  pub sink : told refused.SinkFault → ReadsStack command → count ≤ 255

-- the one line of a refusal was written, or a front of it where the count of faults rose
abbrev pub IsNoted : Notes → Notes → List ℕ → Type 0
IsNoted before now line =
    Appends before.written now.written line
    ⊎ ((before.faults < now.faults) × AppendsFront before.written now.written line)

-- no fault rose
pub record IsCalm (before now : Ports) : Type 0 where
  pub source : now.source_faults ≤ before.source_faults
  pub sink : now.sink_faults ≤ before.sink_faults
  pub shelf : now.shelf_faults ≤ before.shelf_faults

-- how many bytes of the source a command takes at most
abbrev pub most_taken : Command → ℕ
most_taken (Flatten true) = 2 ^ 30 + 1
most_taken (Flatten false) = 0
most_taken (Info number) = 0
most_taken Stack = 0
most_taken (Create asked) = 0
most_taken (Grow sectors) = 0
most_taken (Commit uuid) = 0
most_taken Sweep = 0
most_taken (Make seed acts) = 0
most_taken (Export connections) = 0
most_taken (Read at count) = 0
most_taken (Write at) = 33554433
most_taken (Zero at count) = 0
