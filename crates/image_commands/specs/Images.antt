-- What the image commands do to a disk, and what they print.
use Rattle.std.specs.Prelude.{◌≡◌, ℕ, ◌+◌, ◌*◌, ◌<◌, ◌≤◌, ◌⊎◌, Bool, false, IsTrue, List, [], ◌∷◌, ◌++◌, length, map, slice_index_or, Option, Some, None, IfSome, ⊤}
use Rattle.std.specs.Io.KnownBytes.{Appends}
use Rattle.byte_ports.specs.Ports.{AppendsFront}
use Rattle.block_disk.specs.DiskState.{DiskState, Files, Leaves}
use Rattle.gate_mark.specs.MarkFile.{mark_of}
use Rattle.flat_image.specs.declared.act.Act.{Act}
use Rattle.flat_image.specs.declared.act.Act.TheVariants as act
use Rattle.flat_image.specs.declared.act.Asked.{Asked}
use Rattle.flat_image.specs.declared.act.Asked.TheVariants.{Nothing, Uuid, Sectors}
use Rattle.flat_image.specs.declared.base.Base.{Base}
use Rattle.flat_image.specs.Base.{pending_of, top_size}
use Rattle.flat_image.specs.Entries.{entry, StartsWith}
use Rattle.flat_image.specs.History.{History, after, committed, reply}
use Rattle.flat_image.specs.History as history
use Rattle.flat_image.specs.Sectors.{sector_count}
use Rattle.flat_image.specs.Stacks.{Legal}
use Rattle.image_core.specs.Numbers.{manifest_file}
use Rattle.image_core.specs.Shows.{Shows, IsSound, IsUnworn}
use Rattle.image_core.specs.Creating.{fresh_at}
use Rattle.image_core.specs.Standing.{ShowsLeft}
use Rattle.image_core.specs.Sweeping.{AreEmptied}
use Rattle.tool_setup.specs.declared.command.Command.{Command}
use Rattle.tool_setup.specs.declared.command.Command.TheVariants.{Flatten, Info, Stack, Create, Grow, Read, Write, Zero, Commit, Sweep, Make, Export}
use Rattle.layer_commands.specs.Prints.{LayerSheet, AreLayers, heads_of}
use Rattle.layer_commands.specs.Ports.{Ports}
use Rattle.layer_shelf.specs.declared.shelves.Shelf as shelves
use Rattle.byte_ports.specs.declared.ports.Sink as sinks
use Rattle.block_disk.specs.declared.disk.Disk as disks
use Rattle.image_commands.specs.ImageReports.{committed_line, created_line, grown_line, swept_line, wrote_line, zeroed_line}

-- a disk at one moment: whether disks of its type tell, what there is to know of it, and its faults so far
pub record DiskPort : Type 1 where
  pub tells : Bool
  pub state : DiskState
  pub faults : ℕ

-- the disk, as its type tells of it
abbrev pub disk_port : {D : Type 0} → disks.Ghosts D → D → DiskPort
disk_port d disk = record { tells = d.tells; state = d.state disk; faults = d.faults disk }

-- sink and shelf beside a source of which so many bytes are left and so many faults are counted
abbrev pub beside : {B S : Type 0} → Option (List ℕ) → ℕ → sinks.Ghosts B → shelves.Ghosts S → B → S → Ports
beside left source_faults b s out shelf = record {
  left = left;
  source_faults = source_faults;
  written = b.written out;
  sink_faults = b.faults out;
  files = s.files shelf;
  count = s.count shelf;
  shelf_faults = s.faults shelf;
}

-- what a write takes: whole sectors, 33,554,432 bytes at most
pub record IsInput (bytes : List ℕ) : Type 0 where
  pub short : length bytes ≤ 33554432
  pub whole : length bytes ≡ 512 * sector_count bytes

-- what a command takes of the source: a write all of it, the others nothing
abbrev pub Takes : Command → Option (List ℕ) → List ℕ → Type 0
Takes (Write at) left bytes = IfSome left (λ all. bytes ≡ all) × IsInput bytes
Takes (Flatten stdin) left bytes = bytes ≡ []
Takes (Info number) left bytes = bytes ≡ []
Takes Stack left bytes = bytes ≡ []
Takes (Grow sectors) left bytes = bytes ≡ []
Takes (Commit uuid) left bytes = bytes ≡ []
Takes Sweep left bytes = bytes ≡ []
Takes (Make seed acts) left bytes = bytes ≡ []
Takes (Export connections) left bytes = bytes ≡ []
Takes (Create asked) left bytes = bytes ≡ []
Takes (Read at count) left bytes = bytes ≡ []
Takes (Zero at count) left bytes = bytes ≡ []

-- a change of the image, and the flush that keeps it
abbrev pub kept_change : Act → List Act
kept_change change = change ∷ act.Flush ∷ []

-- a commit freezes the top, where it is not in progress, and then seals
abbrev pub freeze_acts : List ℕ → Option (List ℕ) → List Act
freeze_acts uuid None = act.Freeze uuid ∷ []
freeze_acts uuid (Some own) = []

abbrev pub commit_acts : List ℕ → Option (List ℕ) → List Act
commit_acts uuid None = act.Freeze uuid ∷ act.Seal uuid ∷ []
commit_acts uuid (Some own) = act.Seal uuid ∷ []

-- what a command does to an image with that commit in progress or none, act by act
abbrev pub acts_of : Command → List ℕ → Option (List ℕ) → List Act
acts_of (Flatten stdin) bytes pending = []
acts_of (Info number) bytes pending = []
acts_of Stack bytes pending = []
acts_of (Grow sectors) bytes pending = act.Grow sectors ∷ []
acts_of (Commit uuid) bytes pending = commit_acts uuid pending
acts_of Sweep bytes pending = []
acts_of (Make seed acts) bytes pending = []
acts_of (Export connections) bytes pending = []
acts_of (Create asked) bytes pending = []
acts_of (Read at count) bytes pending = []
acts_of (Write at) bytes pending = kept_change (act.Write at bytes)
acts_of (Zero at count) bytes pending = kept_change (act.Zero at count)

-- what a failed step of a command may have asked for: a grow its sectors, a commit its uuid or, where it copies, nothing that
-- is named, and the others nothing that is named
abbrev pub MayAsk : Command → Asked → Type 0
MayAsk (Grow sectors) asked = asked ≡ Sectors sectors
MayAsk (Commit uuid) asked = (asked ≡ Nothing) ⊎ (asked ≡ Uuid uuid)
MayAsk (Flatten stdin) asked = asked ≡ Nothing
MayAsk (Info number) asked = asked ≡ Nothing
MayAsk Stack asked = asked ≡ Nothing
MayAsk Sweep asked = asked ≡ Nothing
MayAsk (Make seed acts) asked = asked ≡ Nothing
MayAsk (Export connections) asked = asked ≡ Nothing
MayAsk (Create sectors) asked = asked ≡ Nothing
MayAsk (Read at count) asked = asked ≡ Nothing
MayAsk (Write at) asked = asked ≡ Nothing
MayAsk (Zero at count) asked = asked ≡ Nothing

-- acts as the entries of a history
abbrev pub entries : List Act → History
entries acts = map (λ a. entry 0 a) acts

abbrev pub entries_of : Command → List ℕ → Option (List ℕ) → History
entries_of command bytes pending = entries (acts_of command bytes pending)

-- the sector behind the last that a command speaks of
abbrev pub reach_of : Command → List ℕ → ℕ
reach_of (Flatten stdin) bytes = 0
reach_of (Info number) bytes = 0
reach_of Stack bytes = 0
reach_of (Grow sectors) bytes = 0
reach_of (Commit uuid) bytes = 0
reach_of Sweep bytes = 0
reach_of (Make seed acts) bytes = 0
reach_of (Export connections) bytes = 0
reach_of (Create asked) bytes = 0
reach_of (Read at count) bytes = at + count
reach_of (Write at) bytes = at + sector_count bytes
reach_of (Zero at count) bytes = at + count

-- the shelf has at most 255 files, and where it tells them they are layers that form a stack, or there are none
abbrev pub AreStackedFiles : Option (List (List ℕ)) → ℕ → Type 0
AreStackedFiles told count = (count ≤ 255) × IfSome told (λ files. (layers : List LayerSheet) × AreLayers files layers × (1 ≤ length files → Legal (heads_of layers)))

-- the lower layers of the base are the shelf's, whose files they are where the shelf tells them, and form a stack
pub record LiesOver (told : Option (List (List ℕ))) (count : ℕ) (base : Base) : Type 0 where
  pub stacked : AreStackedFiles told count
  pub sound : IsSound false base
  pub long : length base.lowers ≡ count
  pub lowers : IfSome told (λ files. base.lowers ≡ files)

-- a creation makes an image of the size that it was asked for, or else, where there are layers, of the uppermost one's
abbrev pub IsSizeFor : Option ℕ → ℕ → ℕ → ℕ → Type 0
IsSizeFor None count upper sectors = (1 ≤ count) × (sectors ≡ upper)
IsSizeFor (Some asked) count upper sectors = sectors ≡ asked

-- a new image, in which nothing was written, on a disk that holds none
pub record IsNew (asked : Option ℕ) (count : ℕ) (disk : DiskPort) (base : Base) : Type 0 where
  pub size : IsSizeFor asked count (top_size 0 base.lowers) base.sectors
  pub none : IsTrue disk.tells → mark_of (disk.state.seen manifest_file) ≡ None
  pub fresh : base ≡ fresh_at base.sectors base.lowers base.faults

-- an image, which the disk's files show where it tells, with no sequence over 2^61
pub record IsFound (disk : DiskPort) (base : Base) : Type 0 where
  pub shows : IsTrue disk.tells → Shows disk.state.seen base
  pub unworn : (told : IsTrue disk.tells) → IsUnworn disk.state.seen base (shows told)

-- no commit but that of the uuid is in progress
abbrev pub IsFree : List ℕ → Option (List ℕ) → Type 0
IsFree uuid pending = (pending ≡ None) ⊎ (pending ≡ Some uuid)

-- what a command starts from: a creation from a new image, the others from the one that is found on the
-- disk, a commit where no other one is in progress
abbrev pub StartsAt : Command → ℕ → DiskPort → Base → Type 0
StartsAt (Flatten stdin) layers disk base = ⊥
StartsAt (Info number) layers disk base = ⊥
StartsAt Stack layers disk base = ⊥
StartsAt (Grow sectors) layers disk base = IsFound disk base
StartsAt (Commit uuid) layers disk base = IsFound disk base × IsFree uuid (pending_of base.frozen)
StartsAt Sweep layers disk base = IsFound disk base
StartsAt (Make seed acts) layers disk base = ⊥
StartsAt (Export connections) layers disk base = ⊥
StartsAt (Create asked) layers disk base = IsNew asked layers disk base
StartsAt (Read at count) layers disk base = IsFound disk base
StartsAt (Write at) layers disk base = IsFound disk base
StartsAt (Zero at count) layers disk base = IsFound disk base

-- the command took these bytes of the source, and opened, or made, the image of that base
pub record Opens (command : Command) (before : Ports) (disk : DiskPort) (bytes : List ℕ) (base : Base) : Type 0 where
  pub takes : Takes command before.left bytes
  pub over : LiesOver before.files before.count base
  pub starts : StartsAt command before.count disk base

-- the bytes of the file that a commit of an image makes
abbrev pub committed_size : List ℕ → Base → ℕ
committed_size uuid base =
    length (slice_index_or (committed base (entries (commit_acts uuid (pending_of base.frozen)))) (length base.done) [])

-- what a commit prints: its uuid, its epoch and the bytes of its file, which are known where the disk tells
abbrev pub IsCommitLine : List ℕ → Bool → Base → List ℕ → Type 0
IsCommitLine uuid tells base text =
    (size : ℕ) × (text ≡ committed_line uuid (length base.done) size) × (IsTrue tells → size ≡ committed_size uuid base)

-- what a command prints: one line, or the sectors that it read; what these are is known where disk and shelf tell
abbrev pub IsPrinted : Command → Ports → DiskPort → List ℕ → Base → List ℕ → Type 0
IsPrinted (Create asked) before disk bytes base text = text ≡ created_line base.sectors before.count
IsPrinted (Read at count) before disk bytes base text =
    (length text ≡ 512 * count) × (IsTrue disk.tells → IfSome before.files (λ files. text ≡ reply base [] at count))
IsPrinted (Write at) before disk bytes base text = text ≡ wrote_line at (sector_count bytes)
IsPrinted (Zero at count) before disk bytes base text = text ≡ zeroed_line at count
IsPrinted (Flatten stdin) before disk bytes base text = ⊥
IsPrinted (Info number) before disk bytes base text = ⊥
IsPrinted Stack before disk bytes base text = ⊥
IsPrinted (Grow sectors) before disk bytes base text = text ≡ grown_line sectors
IsPrinted (Commit uuid) before disk bytes base text = IsCommitLine uuid disk.tells base text
IsPrinted Sweep before disk bytes base text = text ≡ swept_line (length base.done)
IsPrinted (Make seed acts) before disk bytes base text = ⊥
IsPrinted (Export connections) before disk bytes base text = ⊥

-- what the command prints was written, or a front of it
pub record Prints (command : Command) (before now : Ports) (disk : DiskPort) (bytes : List ℕ) (base : Base) : Type 0 where
  pub text : List ℕ
  pub is : IsPrinted command before disk bytes base text
  pub written : Appends before.written now.written text

pub record PrintsFront (command : Command) (before now : Ports) (disk : DiskPort) (bytes : List ℕ) (base : Base) : Type 0 where
  pub text : List ℕ
  pub is : IsPrinted command before disk bytes base text
  pub front : AppendsFront before.written now.written text

-- whatever a crash leaves of the disk now shows what it leaves of the history
abbrev pub LeavesOf : DiskPort → Base → History → Type 0
LeavesOf disk base history = (files : Files) → Leaves disk.state files → ShowsLeft base history files

-- the disk shows the base as it reads, and so does whatever a crash leaves of it
pub record Holds (disk : DiskPort) (base : Base) : Type 0 where
  pub reads : IsTrue disk.tells → Shows disk.state.seen base
  pub crash : (files : Files) → Leaves disk.state files → Shows files base

-- after a sweep, where the disk tells, the files of the tops of all committed epochs are empty
abbrev pub IsSwept : Command → DiskPort → Base → Type 0
IsSwept Sweep disk base = IsTrue disk.tells → AreEmptied disk.state.seen (length base.done)
IsSwept (Flatten stdin) disk base = ⊤
IsSwept (Info number) disk base = ⊤
IsSwept Stack disk base = ⊤
IsSwept (Grow sectors) disk base = ⊤
IsSwept (Commit uuid) disk base = ⊤
IsSwept (Make seed acts) disk base = ⊤
IsSwept (Export connections) disk base = ⊤
IsSwept (Create asked) disk base = ⊤
IsSwept (Read at count) disk base = ⊤
IsSwept (Write at) disk base = ⊤
IsSwept (Zero at count) disk base = ⊤

-- the command did what it is for: the disk shows what all its acts made of the base, and all that it prints was written
pub record Does (command : Command) (before now : Ports) (disk disk_now : DiskPort) : Type 0 where
  pub bytes : List ℕ
  pub base : Base
  pub opens : Opens command before disk bytes base
  pub within : reach_of command bytes ≤ base.sectors
  pub holds : Holds disk_now (history.now base (entries_of command bytes (pending_of base.frozen)))
  pub swept : IsSwept command disk_now base
  pub prints : Prints command before now disk bytes base

-- the history is a beginning of the acts, with a failed step behind it only where the disk's count of faults rose
pub record IsBegun (acts : History) (asks : Asked → Type 0) (before now : ℕ) (history : History) : Type 0 where
  pub front : History
  pub starts : StartsWith acts front
  pub is : (history ≡ front) ⊎ ((before < now) × ((asked : Asked) × asks asked × (history ≡ front ++ entry 0 (act.Fault asked) ∷ [])))

-- The image was opened, or made, and acts on it were begun: a crash leaves what it leaves of these. A front of what the
-- command prints was written.
pub record Began (command : Command) (before now : Ports) (disk disk_now : DiskPort) : Type 0 where
  pub bytes : List ℕ
  pub base : Base
  pub opens : Opens command before disk bytes base
  pub within : reach_of command bytes ≤ base.sectors
  pub history : History
  pub begun : IsBegun (entries_of command bytes (pending_of base.frozen)) (MayAsk command) disk.faults disk_now.faults history
  pub crash : LeavesOf disk_now base history
  pub prints : PrintsFront command before now disk bytes base
