-- What `make` does to a disk and prints, and why it is refused.
use Rattle.std.specs.Prelude.{◌≡◌, ◌≢◌, ℕ, ◌<◌, ◌⊎◌, IsTrue, Bool, List, [], Option, None}
use Rattle.std.specs.Io.KnownBytes.{Appends, Keeps}
use Rattle.byte_ports.specs.Ports.{AppendsFront}
use Rattle.block_disk.specs.Claims.{Quiet}
use Rattle.gate_mark.specs.MarkFile.{mark_of}
use Rattle.flat_image.specs.declared.act.Asked.{Asked}
use Rattle.flat_image.specs.declared.act.Asked.TheVariants.{Nothing, Uuid}
use Rattle.flat_image.specs.declared.base.Base.{Base}
use Rattle.flat_image.specs.History as history
use Rattle.flat_image.specs.History.{History, after}
use Rattle.image_core.specs.Numbers.{manifest_file}
use Rattle.image_core.specs.Creating.{fresh_at}
use Rattle.layer_commands.specs.declared.refusal.Refusal.{Refusal}
use Rattle.layer_commands.specs.declared.refusal.Refusal.TheVariants as refused
use Rattle.image_commands.specs.Images.{DiskPort, IsBegun, Holds, LeavesOf, entries}
use Rattle.image_make.specs.declared.draws.Drawn.{Drawn}
use Rattle.image_make.specs.declared.draws.Drawn.TheVariants.{Flush, Zero, Write, Commit}
use Rattle.image_make.specs.Draws.{drawn}
use Rattle.image_make.specs.Acts.{all_acts, tally_of}
use Rattle.image_make.specs.Lines.{made_lines}
use Rattle.image_make.specs.Sums.{filled_in, sum_in}

-- the sectors of the image
unfoldable pub made_sectors : ℕ
made_sectors = 4096

-- the image that it begins with, opened at that count of faults: nothing was written in it, and it lies over no layers
abbrev pub new_image : ℕ → Base
new_image faults = fresh_at made_sectors [] faults

-- the acts and the flush behind them, as the entries of a history, and the image that they make
abbrev pub all_entries : ℕ → ℕ → History
all_entries seed acts = entries (all_acts seed acts)

abbrev pub made_image : ℕ → ℕ → List (List ℕ)
made_image seed acts = after (new_image 0) (all_entries seed acts)

-- what a failed step of a drawn act may have asked for: a commit its uuid or, where it copies, nothing that is named, and the
-- others nothing that is named
abbrev pub AsksIn : Drawn → Asked → Type 0
AsksIn Flush asked = asked ≡ Nothing
AsksIn (Zero at count) asked = asked ≡ Nothing
AsksIn (Write at count byte) asked = asked ≡ Nothing
AsksIn (Commit uuid) asked = (asked ≡ Nothing) ⊎ (asked ≡ Uuid uuid)

-- and one of so many acts, or of the flush behind them
abbrev pub AsksOf : ℕ → ℕ → Asked → Type 0
AsksOf seed acts asked = (asked ≡ Nothing) ⊎ ((number : ℕ) × (number < acts) × AsksIn (drawn seed number) asked)

-- what is printed: how many acts there were of each kind, and what the image holds, which is known where the disk tells
pub record IsTold (seed acts : ℕ) (tells : Bool) (text : List ℕ) : Type 0 where
  pub filled : ℕ
  pub total : ℕ
  pub is : text ≡ made_lines acts (tally_of seed acts) filled total
  pub filled_is : IsTrue tells → filled ≡ filled_in (made_image seed acts)
  pub total_is : IsTrue tells → total ≡ sum_in (made_image seed acts)

-- the disk held no image, where it tells
abbrev pub HeldNone : DiskPort → Type 0
HeldNone disk = IsTrue disk.tells → mark_of (disk.state.seen manifest_file) ≡ None

-- All acts were done: the disk shows what they made of the new image, as does whatever a crash leaves of it, and the lines
-- were written.
pub record MakesImage (seed acts : ℕ) (written written_now : Option (List ℕ)) (disk disk_now : DiskPort) : Type 0 where
  pub none : HeldNone disk
  pub holds : Holds disk_now (history.now (new_image disk.faults) (all_entries seed acts))
  pub text : List ℕ
  pub told : IsTold seed acts disk.tells text
  pub prints : Appends written written_now text

-- the image was made and acts on it were begun: a crash leaves what it leaves of these
pub record HasBegun (seed acts : ℕ) (disk disk_now : DiskPort) (history : History) : Type 0 where
  pub none : HeldNone disk
  pub begun : IsBegun (all_entries seed acts) (AsksOf seed acts) disk.faults disk_now.faults history
  pub crash : LeavesOf disk_now (new_image disk.faults) history

-- Why not all was done, and what stands then. Nothing was written but where the sink failed, and then all acts were done.
-- Where the creation failed on a disk that held no image, nothing more is said of the disk.
abbrev pub MakeFails : ℕ → ℕ → (sink sink_now : ℕ) → (written written_now : Option (List ℕ)) → (disk disk_now : DiskPort) → Refusal → Type 0
MakeFails seed acts sink sink_now written written_now disk disk_now refused.ImageExists =
    (IsTrue disk.tells → mark_of (disk.state.seen manifest_file) ≢ None) × Keeps written written_now × Quiet disk.state disk_now.state
MakeFails seed acts sink sink_now written written_now disk disk_now refused.Memory =
    Keeps written written_now × (Quiet disk.state disk_now.state ⊎ ((history : History) × HasBegun seed acts disk disk_now history))
MakeFails seed acts sink sink_now written written_now disk disk_now refused.DiskFault =
    (disk.faults < disk_now.faults) × Keeps written written_now
    × (Quiet disk.state disk_now.state ⊎ HeldNone disk ⊎ ((history : History) × HasBegun seed acts disk disk_now history))
MakeFails seed acts sink sink_now written written_now disk disk_now refused.SinkFault =
    (sink < sink_now) × HasBegun seed acts disk disk_now (all_entries seed acts)
    × ((text : List ℕ) × IsTold seed acts disk.tells text × AppendsFront written written_now text)
MakeFails seed acts sink sink_now written written_now disk disk_now other = ⊥
