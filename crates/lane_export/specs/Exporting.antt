-- What the export of an image over shelves comes to.
use Rattle.std.specs.Prelude.{◌≡◌, ℕ, ◌^◌, ◌≤◌, ◌⊎◌, IsTrue, List, [], length, Option, Some, None, Result, Ok, Err, All}
use Rattle.std.specs.List.{AllZip}
use Rattle.block_disk.specs.declared.disk.Disk as disks
use Rattle.block_disk.specs.Claims.{Quiet}
use Rattle.layer_shelf.specs.declared.shelves.Shelf as shelves
use Rattle.layer_shelf.specs.Shelves.{SameFiles}
use Rattle.byte_ports.specs.declared.ports.Source as sources
use Rattle.byte_ports.specs.declared.ports.Sink as sinks
use Rattle.flat_image.specs.declared.base.Base.{Base}
use Rattle.flat_image.specs.Stacks.{Legal}
use Rattle.nbd_session.specs.declared.served.Served.{Served}
use Rattle.image_core.specs.declared.parts.Parts.{Parts}
use Rattle.image_core.specs.Seen.{Seen, StandsFor, with_disk}
use Rattle.lane_serve.specs.Listeners.{Listening}
use Rattle.lane_serve.specs.Lanes.{Ways}
use Rattle.tool_setup.specs.declared.command.Command.{Command}
use Rattle.tool_setup.specs.declared.command.Command.TheVariants as command
use Rattle.tool_setup.specs.declared.command.WordsFault.{WordsFault}
use Rattle.layer_commands.specs.Prints.{LayerSheet, AreLayers, heads_of}
use Rattle.image_commands.specs.declared.refusal.ImageRefusal.{ImageRefusal}
use Rattle.image_commands.specs.ImageTexts.{image_code}
use Rattle.image_commands.specs.Images.{DiskPort, LiesOver, IsFound, disk_port}
use Rattle.image_commands.specs.ImageSteps.{OpenCause}
use Rattle.image_commands.specs.Clear.{IsOpen}
use Rattle.lane_export.specs.declared.export_end.ExportEnd.{ExportEnd}
use Rattle.lane_export.specs.declared.export_end.ExportEnd.TheVariants as end
use Rattle.control_session.specs.declared.control_end.ControlEnd.{ControlEnd}
use Rattle.lane_export.specs.Lanes.{Stream, ExportsLanes, control_at, stream_of}

-- all that an export is handed and hands back, at one moment: the disk, the control's shelf, the lanes, and the control's stream
pub record Moment (D S L : Type 0) : Type 0 where
  pub disk : D
  pub shelf : S
  pub lanes : List (S × L)
  pub stream : Stream

abbrev pub moment : {D S L A B : Type 0} → sources.Ghosts A → sinks.Ghosts B → D → S → List (S × L) → A → B → Moment D S L
moment a b disk shelf lanes source sink = record { disk = disk; shelf = shelf; lanes = lanes; stream = stream_of a b source sink }

-- the lanes' shelves have the files of this one, told or not
abbrev pub HaveSameFiles : {S L : Type 0} → (S → Option (List (List ℕ))) → (S → ℕ) → S → List (S × L) → Type 0
HaveSameFiles files count shelf lanes = All (λ pair. (count pair.0 ≡ count shelf) × (files pair.0 ≡ files shelf)) lanes

-- the status by how the export ended
abbrev pub end_code : ExportEnd → ℕ
end_code end.Flushed = 0
end_code end.ListenerFailed = 4
end_code end.FlushFailed = 4
end_code end.Worn = 6
end_code end.Memory = 5

-- No image was opened. The disk reads as before, the lanes are as they were, and the control's stream was not served.
pub record HasNoImage {D S L : Type 0} (d : disks.Ghosts D) (s : shelves.Ghosts S) (old new : Moment D S L) (ended : Option ControlEnd) (code : ℕ) : Type 0 where
  pub refusal : ImageRefusal
  pub code_is : code ≡ image_code refusal
  pub cause : OpenCause (s.files old.shelf) (s.count old.shelf) (s.faults old.shelf) (s.faults new.shelf) (disk_port d old.disk) (disk_port d new.disk) refusal
  pub quiet : Quiet (d.state old.disk) (d.state new.disk)
  pub same : new.lanes ≡ old.lanes
  pub shelf_same : SameFiles s.files s.count old.shelf new.shelf
  pub stream_same : new.stream ≡ old.stream
  pub unserved : ended ≡ None

-- An image was opened, and its lanes and its control were served, or there was no memory for that. Of the base the disk's faults
-- are those that it had counted before. The shelves that are given back have the files that were handed in, told or not.
pub record HasRun {D S L A B : Type 0} (w : Ways A B) (d : disks.Ghosts D) (s : shelves.Ghosts S) (told : L → Option (Listening A B Served)) (faults : L → ℕ)
    (old new : Moment D S L) (connections : ℕ) (ended : Option ControlEnd) (code : ℕ) : Type 0 where
  pub base : Base
  pub lies : LiesOver (s.files old.shelf) (s.count old.shelf) base
  pub found : IsFound (disk_port d old.disk) base
  pub faults_are : base.faults ≡ d.faults old.disk
  pub parts : Parts
  pub end : ExportEnd
  pub code_is : code ≡ end_code end
  pub many : length new.lanes ≡ length old.lanes
  pub shelf_same : SameFiles s.files s.count old.shelf new.shelf
  pub shelves_same : HaveSameFiles s.files s.count new.shelf new.lanes
  pub exports : ExportsLanes w d s told faults base old.lanes new.lanes connections (control_at d s old.shelf old.stream) (control_at d s new.shelf new.stream) ended (with_disk d new.disk parts) end

-- an export of the image on a disk over shelves
abbrev pub HasExported : {D S L A B : Type 0} → Ways A B → disks.Ghosts D → shelves.Ghosts S → (L → Option (Listening A B Served)) → (L → ℕ) → (old new : Moment D S L)
    → ℕ → Option ControlEnd → ℕ → Type 0
HasExported w d s told faults old new connections ended code =
    HasNoImage d s old new ended code ⊎ HasRun w d s told faults old new connections ended code

-- ---- when nothing stands in the way

-- Nothing stands in the way of an export. Shelf and disk tell; the shelf's files are layers that form a stack, or there are none;
-- the disk's files show an image over them, with no sequence over 2^61; and the counts of faults did not rise: the disk's,
-- the shelf's, and those of the listeners.
pub record IsClear {D S L : Type 0} (d : disks.Ghosts D) (s : shelves.Ghosts S) (faults : L → ℕ) (old new : Moment D S L) (connections : ℕ) : Type 0 where
  pub steady : d.faults new.disk ≤ d.faults old.disk
  pub calm : s.faults new.shelf ≤ s.faults old.shelf
  pub listening : AllZip (λ x y. faults y.1 ≤ faults x.1) old.lanes new.lanes
  pub tells : IsTrue d.tells
  pub files : List (List ℕ)
  pub told : s.files old.shelf ≡ Some files
  pub layers : List LayerSheet
  pub are : AreLayers files layers
  pub legal : 1 ≤ length files → Legal (heads_of layers)
  pub shown : IsOpen (command.Export connections) files (disk_port d old.disk) []

-- Then the status is 0, or 5 for want of memory, unless the image was served until its history had 2^62 entries.
unfoldable pub IsComplete : {D S L A B : Type 0} → Ways A B → disks.Ghosts D → shelves.Ghosts S → (L → Option (Listening A B Served)) → (L → ℕ) → (old new : Moment D S L)
    → ℕ → Option ControlEnd → ℕ → Type 0
IsComplete w d s told faults old new connections ended code = IsClear d s faults old new connections
    → (code ≡ 0) ⊎ (code ≡ 5) ⊎ ((run : HasRun w d s told faults old new connections ended code) × (run.parts.steps ≡ 2 ^ 62))

-- the connections of each lane, where the command is an export
abbrev pub connections_of : Command → Option ℕ
connections_of (command.Flatten stdin) = None
connections_of (command.Info number) = None
connections_of command.Stack = None
connections_of (command.Create sectors) = None
connections_of (command.Grow sectors) = None
connections_of (command.Read at count) = None
connections_of (command.Write at) = None
connections_of (command.Zero at count) = None
connections_of (command.Commit uuid) = None
connections_of command.Sweep = None
connections_of (command.Make seed acts) = None
connections_of (command.Export connections) = Some connections

abbrev pub connections_if : Result Command WordsFault → Option ℕ
connections_if (Ok command) = connections_of command
connections_if (Err fault) = None

-- Words that are no export leave all as it was, and so does want of memory for reading them.
abbrev pub RunsWords : Option ℕ → (same : Type 0) → (ℕ → Type 0) → ℕ → Type 0
RunsWords None same Runs code = same × ((code ≡ 2) ⊎ (code ≡ 5))
RunsWords (Some connections) same Runs code = (same × (code ≡ 5)) ⊎ Runs connections
