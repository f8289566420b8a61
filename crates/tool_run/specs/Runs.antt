-- What a run of the program does, and why it is refused: of a command over layers and of one on an image.
use Rattle.std.specs.Prelude.{◌≡◌, ◌≢◌, ℕ, ◌^◌, ◌<◌, ◌≤◌, ◌⊎◌, IsTrue, ⊤, List, Option, Some, None, IfSome, Result, Ok, Err}
use Rattle.std.specs.Io.KnownBytes.{Keeps}
use Rattle.sector_extent.specs.Causes.{Charges}
use Rattle.byte_ports.specs.declared.ports.Source as sources
use Rattle.byte_ports.specs.declared.ports.Sink as sinks
use Rattle.layer_shelf.specs.declared.shelves.Shelf as shelves
use Rattle.block_disk.specs.declared.disk.Disk as disks
use Rattle.block_disk.specs.Claims.{Quiet}
use Rattle.lsmt_header.specs.Blocks.{IsSize, nil}
use Rattle.tool_setup.specs.declared.command.Command.{Command}
use Rattle.tool_setup.specs.declared.command.Command.TheVariants.{Flatten, Info, Stack, Create, Grow, Read, Write, Zero, Commit, Sweep, Make, Export}
use Rattle.tool_setup.specs.declared.command.WordsFault.{WordsFault}
use Rattle.tool_setup.specs.Words.{command_of}
use Rattle.layer_commands.specs.declared.refusal.Refusal.{Refusal}
use Rattle.layer_commands.specs.declared.refusal.Refusal.TheVariants as refused
use Rattle.layer_commands.specs.Texts.{line_of}
use Rattle.layer_commands.specs.Ports.{Ports, Notes, ports_of, notes_of}
use Rattle.layer_commands.specs.Prints.{Prints, read_by}
use Rattle.layer_commands.specs.Causes.{PrintsAll, Cause, IsNoted, AreCharged, IsCalm, IsCounted, IsMissing, most_taken}
use Rattle.image_commands.specs.declared.refusal.ImageRefusal.{ImageRefusal}
use Rattle.image_commands.specs.declared.refusal.ImageRefusal.TheVariants.{Load, Other}
use Rattle.image_commands.specs.ImageTexts.{image_text, image_code}
use Rattle.image_commands.specs.Images.{DiskPort, Does, disk_port}
use Rattle.image_commands.specs.ImageCauses.{Untouched, CommandCause}
use Rattle.image_commands.specs.Clear.{IsClear}
use Rattle.image_make.specs.Making.{HeldNone, MakeFails, MakesImage}

-- all objects that a run is handed, at one moment
pub record Moment : Type 1 where
  pub ports : Ports
  pub notes : Notes
  pub disk : DiskPort

abbrev pub moment : {A B C D S : Type 0} → sources.Ghosts A → sinks.Ghosts B → sinks.Ghosts C → disks.Ghosts D → shelves.Ghosts S → A → B → C → D → S → Moment
moment a b c d s source out notes disk shelf = record { ports = ports_of a b s source out shelf; notes = notes_of c notes; disk = disk_port d disk }

-- The command is one of those that are run here; a size that is asked for is one of an image, a uuid not the nil one, and a
-- seed below 2^31 for at most 100,000 acts.
abbrev pub IsRun : Command → Type 0
IsRun (Flatten stdin) = ⊤
IsRun (Info number) = ⊤
IsRun Stack = ⊤
IsRun (Create sectors) = IfSome sectors IsSize
IsRun (Read at count) = ⊤
IsRun (Write at) = ⊤
IsRun (Zero at count) = ⊤
IsRun (Grow sectors) = IsSize sectors
IsRun (Commit uuid) = uuid ≢ nil
IsRun Sweep = ⊤
IsRun (Make seed acts) = (seed < 2 ^ 31) × (acts ≤ 100000)
IsRun (Export connections) = ⊥

-- What a command over layers does: it prints, and leaves the disk as it was. The shelf has the layer, or layers for a stack, also
-- where it does not tell its files.
abbrev pub DoesPrint : Command → Ports → Ports → DiskPort → DiskPort → Type 0
DoesPrint command before now disk disk_now =
    PrintsAll command before now × Quiet disk.state disk_now.state × IsCounted command before.count (λ refusal. ⊥) ⊤

-- the command did what it is for
abbrev pub Succeeds : Command → Ports → Ports → DiskPort → DiskPort → Type 0
Succeeds (Flatten stdin) before now disk disk_now = DoesPrint (Flatten stdin) before now disk disk_now
Succeeds (Info number) before now disk disk_now = DoesPrint (Info number) before now disk disk_now
Succeeds Stack before now disk disk_now = DoesPrint Stack before now disk disk_now
Succeeds (Create sectors) before now disk disk_now = Does (Create sectors) before now disk disk_now
Succeeds (Read at count) before now disk disk_now = Does (Read at count) before now disk disk_now
Succeeds (Write at) before now disk disk_now = Does (Write at) before now disk disk_now
Succeeds (Zero at count) before now disk disk_now = Does (Zero at count) before now disk disk_now
Succeeds (Grow sectors) before now disk disk_now = Does (Grow sectors) before now disk disk_now
Succeeds (Commit uuid) before now disk disk_now = Does (Commit uuid) before now disk disk_now
Succeeds Sweep before now disk disk_now = Does Sweep before now disk disk_now
Succeeds (Make seed acts) before now disk disk_now = MakesImage seed acts before.written now.written disk disk_now
Succeeds (Export connections) before now disk disk_now = ⊥

-- The cause of a refusal of a command over layers, which leaves the disk as it was; and that no layer, or no layers for a stack,
-- are told as that, also where the shelf does not tell its files.
abbrev pub PrintFails : Command → Ports → Ports → DiskPort → DiskPort → ImageRefusal → Type 0
PrintFails command before now disk disk_now (Other refusal) =
    Cause command before now refusal × Quiet disk.state disk_now.state × IsCounted command before.count (λ told. refusal ≡ told) ⊥
PrintFails command before now disk disk_now (Load fault) = ⊥

-- why `make` is refused, which opens no image
abbrev pub MakeRefused : ℕ → ℕ → (sink sink_now : ℕ) → (written written_now : Option (List ℕ)) → (disk disk_now : DiskPort) → ImageRefusal → Type 0
MakeRefused seed acts sink sink_now written written_now disk disk_now (Other refusal) =
    MakeFails seed acts sink sink_now written written_now disk disk_now refusal
MakeRefused seed acts sink sink_now written written_now disk disk_now (Load fault) = ⊥

-- the cause of a refusal, and what stands after it
abbrev pub Fails : Command → Ports → Ports → DiskPort → DiskPort → ImageRefusal → Type 0
Fails (Flatten stdin) before now disk disk_now refusal = PrintFails (Flatten stdin) before now disk disk_now refusal
Fails (Info number) before now disk disk_now refusal = PrintFails (Info number) before now disk disk_now refusal
Fails Stack before now disk disk_now refusal = PrintFails Stack before now disk disk_now refusal
Fails (Create sectors) before now disk disk_now refusal = CommandCause (Create sectors) before now disk disk_now refusal
Fails (Read at count) before now disk disk_now refusal = CommandCause (Read at count) before now disk disk_now refusal
Fails (Write at) before now disk disk_now refusal = CommandCause (Write at) before now disk disk_now refusal
Fails (Zero at count) before now disk disk_now refusal = CommandCause (Zero at count) before now disk disk_now refusal
Fails (Grow sectors) before now disk disk_now refusal = CommandCause (Grow sectors) before now disk disk_now refusal
Fails (Commit uuid) before now disk disk_now refusal = CommandCause (Commit uuid) before now disk disk_now refusal
Fails Sweep before now disk disk_now refusal = CommandCause Sweep before now disk disk_now refusal
Fails (Make seed acts) before now disk disk_now refusal =
    MakeRefused seed acts before.sink_faults now.sink_faults before.written now.written disk disk_now refusal
Fails (Export connections) before now disk disk_now refusal = ⊥

-- the command itself where it is one of those that are run here
abbrev pub run_of : Command → Option Command
run_of (Flatten stdin) = Some (Flatten stdin)
run_of (Info number) = Some (Info number)
run_of Stack = Some Stack
run_of (Create sectors) = Some (Create sectors)
run_of (Read at count) = Some (Read at count)
run_of (Write at) = Some (Write at)
run_of (Zero at count) = Some (Zero at count)
run_of (Grow sectors) = Some (Grow sectors)
run_of (Commit uuid) = Some (Commit uuid)
run_of Sweep = Some Sweep
run_of (Make seed acts) = Some (Make seed acts)
run_of (Export connections) = None

abbrev pub run_if : Result Command WordsFault → Option Command
run_if (Ok command) = run_of command
run_if (Err fault) = None

-- the command that the words are, where it is one of those that are run here
abbrev pub asked : List (List ℕ) → Option Command
asked words = run_if (command_of words)

-- memory is wanting before anything is done
abbrev pub IsShort : Ports → Ports → DiskPort → DiskPort → ImageRefusal → Type 0
IsShort before now disk disk_now refusal = (refusal ≡ Other refused.Memory) × Untouched before now disk disk_now

-- The same of words, which may be no command that is run here. To read them wants memory.
abbrev pub WordsFail : Option Command → Ports → Ports → DiskPort → DiskPort → ImageRefusal → Type 0
WordsFail None before now disk disk_now refusal =
    ((refusal ≡ Other refused.Usage) × Untouched before now disk disk_now) ⊎ IsShort before now disk disk_now refusal
WordsFail (Some command) before now disk disk_now refusal =
    Fails command before now disk disk_now refusal ⊎ IsShort before now disk disk_now refusal

-- the count of each object's faults rose just where the run was refused as that object's fault
pub record AllCharged (before now : Ports) (disk disk_now : DiskPort) (told : Refusal → Type 0) : Type 0 where
  pub ports : AreCharged before now told
  pub disk_cause : Charges (λ n. n) disk.faults disk_now.faults (told refused.DiskFault)

-- the run of words that are this command did what it is for, and no object failed
abbrev pub RunSucceeds : Option Command → Moment → Moment → Type 0
RunSucceeds words before now =
    IfSome words (λ command. Succeeds command before.ports now.ports before.disk now.disk) × Keeps before.notes.written now.notes.written
    × AllCharged before.ports now.ports before.disk now.disk (λ r. ⊥)

-- a run with that status was refused: with a cause, which is the one object's fault where any failed, its status and its line
abbrev pub RunFails : Option Command → Moment → Moment → ℕ → Type 0
RunFails words before now code =
    (refusal : ImageRefusal) × (code ≡ image_code refusal) × IsNoted before.notes now.notes (line_of (image_text refusal))
    × WordsFail words before.ports now.ports before.disk now.disk refusal
    × AllCharged before.ports now.ports before.disk now.disk (λ r. refusal ≡ Other r)

-- what a source may lose in a run
abbrev pub most_of : Option Command → ℕ
most_of None = 0
most_of (Some command) = most_taken command

-- where a command over layers can print, and no object failed, only want of memory refuses it
abbrev pub IsComplete : Option Command → Ports → Ports → ℕ → Type 0
IsComplete words before now code = IfSome words (λ command. IfSome (read_by command before.left before.files) (λ files.
    (bytes : List ℕ) → Prints command files bytes → IsCalm before now → (code ≡ 0) ⊎ (code ≡ 5)))

-- nothing stands in the way of `make`: the disk tells and holds no image, and no object failed
pub record CanMake (before now : Ports) (disk disk_now : DiskPort) : Type 0 where
  pub calm : IsCalm before now
  pub steady : disk_now.faults ≤ disk.faults
  pub tells : IsTrue disk.tells
  pub none : HeldNone disk

-- nothing stands in the way of a command on an image
abbrev pub IsUnhindered : Command → Ports → Ports → DiskPort → DiskPort → Type 0
IsUnhindered (Make seed acts) before now disk disk_now = CanMake before now disk disk_now
IsUnhindered (Flatten stdin) before now disk disk_now = IsClear (Flatten stdin) before now disk disk_now
IsUnhindered (Info number) before now disk disk_now = IsClear (Info number) before now disk disk_now
IsUnhindered Stack before now disk disk_now = IsClear Stack before now disk disk_now
IsUnhindered (Create sectors) before now disk disk_now = IsClear (Create sectors) before now disk disk_now
IsUnhindered (Read at count) before now disk disk_now = IsClear (Read at count) before now disk disk_now
IsUnhindered (Write at) before now disk disk_now = IsClear (Write at) before now disk disk_now
IsUnhindered (Zero at count) before now disk disk_now = IsClear (Zero at count) before now disk disk_now
IsUnhindered (Grow sectors) before now disk disk_now = IsClear (Grow sectors) before now disk disk_now
IsUnhindered (Commit uuid) before now disk disk_now = IsClear (Commit uuid) before now disk disk_now
IsUnhindered Sweep before now disk disk_now = IsClear Sweep before now disk disk_now
IsUnhindered (Export connections) before now disk disk_now = IsClear (Export connections) before now disk disk_now

-- and so where nothing stands in the way of a command on an image
abbrev pub IsImageComplete : Option Command → Moment → Moment → ℕ → Type 0
IsImageComplete words before now code =
    IfSome words (λ command. IsUnhindered command before.ports now.ports before.disk now.disk → (code ≡ 0) ⊎ (code ≡ 5))

-- the words ask for a layer whose number is not below the shelf's count
abbrev pub AreMissing : Option Command → ℕ → Type 0
AreMissing None count = ⊥
AreMissing (Some command) count = IsMissing command count
