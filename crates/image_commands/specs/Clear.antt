-- When nothing stands in the way of a command on an image.
use Rattle.std.specs.Prelude.{◌≡◌, ℕ, ◌+◌, ◌<◌, ◌≤◌, ◌⊎◌, IsTrue, List, [], ◌++◌, length, map, Contains, Option, Some, None}
use Rattle.flat_image.specs.declared.act.Act.{Act}
use Rattle.flat_image.specs.declared.base.Base.{Base}
use Rattle.flat_image.specs.Base.{pending_of}
use Rattle.flat_image.specs.LayerReading.{uuid_in}
use Rattle.flat_image.specs.History.{IsOver, rows_taken, sectors_taken}
use Rattle.flat_image.specs.Stacks.{Legal}
use Rattle.gate_mark.specs.MarkFile.{mark_of}
use Rattle.image_core.specs.Numbers.{manifest_file}
use Rattle.image_core.specs.Shows.{Shows, IsUnworn}
use Rattle.tool_setup.specs.declared.command.Command.{Command}
use Rattle.tool_setup.specs.declared.command.Command.TheVariants.{Flatten, Info, Stack, Create, Grow, Read, Write, Zero, Commit, Sweep, Make, Export}
use Rattle.layer_commands.specs.Prints.{LayerSheet, AreLayers, heads_of, sectors_of}
use Rattle.layer_commands.specs.Ports.{Ports}
use Rattle.layer_commands.specs.Causes.{IsCalm}
use Rattle.image_commands.specs.Images.{DiskPort, IsInput, acts_of, kept_change, reach_of}

-- the uppermost layer has no more sectors than were asked for, or there are layers where none was asked for
abbrev pub HaveAskedSize : Option ℕ → List (List ℕ) → List LayerSheet → Type 0
HaveAskedSize None files layers = 1 ≤ length files
HaveAskedSize (Some sectors) files layers = 1 ≤ length files → sectors_of layers ≤ sectors

-- no commit of the image is in progress, and so many sectors are more than it has
pub record CanBeLarger (base : Base) (sectors : ℕ) : Type 0 where
  pub none : pending_of base.frozen ≡ None
  pub more : base.sectors < sectors

-- the commit of this uuid is in progress; or none is, and the image has fewer than 255 layers, none with the uuid
abbrev pub CanBeCommitted : Base → List ℕ → Type 0
CanBeCommitted base uuid =
    (pending_of base.frozen ≡ Some uuid)
    ⊎ ((pending_of base.frozen ≡ None) × (length (base.lowers ++ base.done) < 255) × (Contains (map uuid_in (base.lowers ++ base.done)) uuid → ⊥))

-- The disk's files show an image over these lower files, with no sequence over 2^61; the command's sectors lie in it, there
-- is room for its change, a grow asks for more sectors than it has, and no commit stops a grow or a commit.
pub record IsOpen (command : Command) (files : List (List ℕ)) (disk : DiskPort) (bytes : List ℕ) : Type 0 where
  pub base : Base
  pub over : base.lowers ≡ files
  pub shows : Shows disk.state.seen base
  pub unworn : IsUnworn disk.state.seen base shows
  pub within : reach_of command bytes ≤ base.sectors
  pub room : (change : Act) → acts_of command bytes (pending_of base.frozen) ≡ kept_change change → IsOver (base.rows + rows_taken change) (base.filled + sectors_taken change) → ⊥
  pub larger : (sectors : ℕ) → command ≡ Grow sectors → CanBeLarger base sectors
  pub free : (uuid : List ℕ) → command ≡ Commit uuid → CanBeCommitted base uuid

-- what the source, the layers and the disk have to be for the command
abbrev pub IsReady : Command → Option (List ℕ) → List (List ℕ) → List LayerSheet → DiskPort → Type 0
IsReady (Create asked) left files layers disk = HaveAskedSize asked files layers × (mark_of (disk.state.seen manifest_file) ≡ None)
IsReady (Read at count) left files layers disk = IsOpen (Read at count) files disk []
IsReady (Write at) left files layers disk = (bytes : List ℕ) × (left ≡ Some bytes) × IsInput bytes × IsOpen (Write at) files disk bytes
IsReady (Zero at count) left files layers disk = IsOpen (Zero at count) files disk []
IsReady (Flatten stdin) left files layers disk = ⊥
IsReady (Info number) left files layers disk = ⊥
IsReady Stack left files layers disk = ⊥
IsReady (Grow sectors) left files layers disk = IsOpen (Grow sectors) files disk []
IsReady (Commit uuid) left files layers disk = IsOpen (Commit uuid) files disk []
IsReady Sweep left files layers disk = IsOpen Sweep files disk []
IsReady (Make seed acts) left files layers disk = ⊥
IsReady (Export connections) left files layers disk = ⊥

-- Shelf and disk tell, the files are layers that form a stack, or there are none, all is ready, and no object failed.
pub record IsClear (command : Command) (before now : Ports) (disk disk_now : DiskPort) : Type 0 where
  pub calm : IsCalm before now
  pub steady : disk_now.faults ≤ disk.faults
  pub tells : IsTrue disk.tells
  pub files : List (List ℕ)
  pub told : before.files ≡ Some files
  pub layers : List LayerSheet
  pub are : AreLayers files layers
  pub legal : 1 ≤ length files → Legal (heads_of layers)
  pub ready : IsReady command before.left files layers disk
