-- An image with its disk, seen as one value: when it stands for a history, and what a step makes of it.
use Rattle.std.specs.Prelude.{◌≡◌, ℕ, ◌+◌, ◌^◌, ◌≤◌, ◌⊎◌, List, [], ◌∷◌, ◌++◌, length, All, Bool, IsTrue, Option, Some, None}
use Rattle.block_disk.specs.DiskState.{DiskState, Files}
use Rattle.block_disk.specs.declared.disk.Disk.{Ghosts}
use Rattle.block_disk.specs.Claims.{LeavesOnly, Quiet}
use Rattle.gate_mark.specs.Mark.{sequence_in}
use Rattle.flat_image.specs.declared.act.Act.{Act}
use Rattle.flat_image.specs.declared.act.Act.TheVariants.{Read, Write, Zero, Flush, Freeze, Seal, Grow, Fault}
use Rattle.flat_image.specs.declared.act.Asked.{Asked}
use Rattle.flat_image.specs.declared.act.Asked.TheVariants.{Nothing, Uuid, Sectors}
use Rattle.flat_image.specs.declared.base.Base.{Base}
use Rattle.flat_image.specs.Base.{IsBase, HasFewStretches}
use Rattle.flat_image.specs.Entries.{entry}
use Rattle.flat_image.specs.History.{History, now, fault_count, Proper}
use Rattle.flat_image.specs.Left.{Stand, Blamed}
use Rattle.top_writer.specs.View.{sequence_of}
use Rattle.image_core.specs.declared.image.Image.{Image}
use Rattle.image_core.specs.declared.parts.Parts.{Parts}
use Rattle.image_core.specs.View.{ImageView}
use Rattle.image_core.specs.Parts.{parts_view, PartsFit}
use Rattle.image_core.specs.Shows as shows
use Rattle.image_core.specs.Shows.{IsUnworn}
use Rattle.image_core.specs.Opening.{blank_base, StartsFrom}
use Rattle.image_core.specs.Standing.{ShowsLeft}
use Rattle.image_core.specs.MayBe.{KeptStand}

-- an image in memory with its disk, at one moment
pub record Seen : Type 1 where
  pub tells : Bool
  pub state : DiskState
  pub faults : ℕ
  pub parts : Parts

-- what an image has in memory, with a disk
abbrev pub with_disk : {D : Type 0} → Ghosts D → D → Parts → Seen
with_disk kind disk parts = record { tells = kind.tells; state = kind.state disk; faults = kind.faults disk; parts = parts }

-- the image now, on a disk that tells so much
abbrev pub seen : {D : Type 0} → Ghosts D → Image D → Seen
seen kind image = with_disk kind image.disk image.parts

-- what it has in memory
abbrev pub view : {D : Type 0} → Image D → ImageView
view image = parts_view image.parts

-- the faults that its disk has counted
abbrev pub faults_in : {D : Type 0} → Ghosts D → Image D → ℕ
faults_in kind image = kind.faults image.disk

-- its disk
abbrev pub disk_of : {D : Type 0} → Image D → D
disk_of image = image.disk

-- the image stands for the history, with the tops that a crash leaves of it, and the sizes to which a grow that failed may
-- have let it grow
pub record StandsFor (image : Seen) (base : Base) (history : History) : Type 0 where
  pub base_is : IsBase base
  pub few : HasFewStretches base
  pub proper : Proper base history
  pub failed : base.faults + fault_count history ≤ image.faults
  pub steps : image.parts.steps ≡ length history
  pub low : sequence_of image.parts.top ≤ 2 ^ 61 + image.parts.steps
  pub manifest_low : sequence_in image.parts.manifest ≤ 2 ^ 61 + image.parts.steps
  pub tops : List Stand
  pub attempts : List Asked
  pub fits : PartsFit image.tells image.state image.parts (now base history) tops attempts
  pub kept : All (KeptStand base history) tops
  pub blamed : All (Blamed history) attempts

-- it stands for some history over some base
abbrev pub IsImage : Seen → Type 0
IsImage image = (base : Base) × (history : History) × StandsFor image base history

-- the history with one act more, or as it was
abbrev pub more : History → ℕ → Option Act → History
more history number None = history
more history number (Some act) = history ++ entry number act ∷ []

-- the files show what a crash may leave of the history with one act more, whoever's it is
abbrev pub ShowsLeftWith : Base → History → Act → Files → Type 0
ShowsLeftWith base history act files = (number : ℕ) × ShowsLeft base (history ++ entry number act ∷ []) files

-- The files show what a crash may leave within a step that notes an act or none: what it leaves of the history. Of a
-- freeze, a seal or a grow it may also leave what it leaves of the history with that act, or with the step's fault.
abbrev pub ShowsLeftWithin : Base → History → Option Act → Files → Type 0
ShowsLeftWithin base history (Some (Freeze uuid)) files =
    ShowsLeft base history files ⊎ ShowsLeftWith base history (Freeze uuid) files ⊎ ShowsLeftWith base history (Fault (Uuid uuid)) files
ShowsLeftWithin base history (Some (Seal uuid)) files =
    ShowsLeft base history files ⊎ ShowsLeftWith base history (Seal uuid) files ⊎ ShowsLeftWith base history (Fault (Uuid uuid)) files
ShowsLeftWithin base history (Some (Grow sectors)) files =
    ShowsLeft base history files ⊎ ShowsLeftWith base history (Grow sectors) files ⊎ ShowsLeftWith base history (Fault (Sectors sectors)) files
ShowsLeftWithin base history (Some (Fault (Uuid uuid))) files = ShowsLeft base history files ⊎ ShowsLeftWith base history (Fault (Uuid uuid)) files
ShowsLeftWithin base history (Some (Fault (Sectors sectors))) files = ShowsLeft base history files ⊎ ShowsLeftWith base history (Fault (Sectors sectors)) files
ShowsLeftWithin base history (Some (Fault Nothing)) files = ShowsLeft base history files
ShowsLeftWithin base history (Some (Read at count)) files = ShowsLeft base history files
ShowsLeftWithin base history (Some (Write at bytes)) files = ShowsLeft base history files
ShowsLeftWithin base history (Some (Zero at count)) files = ShowsLeft base history files
ShowsLeftWithin base history (Some Flush) files = ShowsLeft base history files
ShowsLeftWithin base history None files = ShowsLeft base history files

-- A step that notes an act, or none. Whatever the image stood for, it stands then for the history with that act, and at
-- each moment of the step a crash leaves what it may leave within it.
pub record Goes (old new : Seen) (noted : Option Act) : Type 0 where
  pub stands : (base : Base) (history : History) (number : ℕ) → StandsFor old base history → StandsFor new base (more history number noted)
  pub any_moment : (base : Base) (history : History) → StandsFor old base history
      → LeavesOnly old.state new.state (λ (u : Unit {0}) (files : Files). ShowsLeftWithin base history noted files)

-- nothing on its disk changes
abbrev pub Rests : Seen → Seen → Type 0
Rests old new = Quiet old.state new.state

-- An image that was opened on a disk in that state, over these lower files: it stands for nothing done over a base that the
-- disk's files show, with no sequence over 2^61, where it tells; where it does not, over what was read of it, with zeros
-- as data.
pub record IsLoaded (old : DiskState) (files : List (List ℕ)) (image : Seen) : Type 0 where
  pub base : Base
  pub lowers_are : base.lowers ≡ files
  pub faults_are : base.faults ≡ image.faults
  pub shows : IsTrue image.tells → shows.Shows old.seen base
  pub unworn : (told : IsTrue image.tells) → IsUnworn old.seen base (shows told)
  pub untold : ¬ IsTrue image.tells → base ≡ blank_base files (parts_view image.parts) image.faults
  pub stands : StandsFor image base []

-- The same over lower layers whose files are told or not: it stands for nothing done over a base from which it starts, and
-- no sequence that the files show is over 2^61.
pub record IsOpened (old : DiskState) (told : Option (List (List ℕ))) (image : Seen) : Type 0 where
  pub base : Base
  pub starts : StartsFrom image.tells old.seen image.faults told (parts_view image.parts) base
  pub unworn : (told : IsTrue image.tells) → IsUnworn old.seen base (starts.told told)
  pub stands : StandsFor image base []
