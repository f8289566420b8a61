-- The files of an image as they are read: the lower ones of a shelf, and the committed ones of its disk.
use Rattle.std.specs.Prelude.{◌≡◌, ℕ, ◌<◌, ◌⊎◌, Bool, true, false, List, ◌++◌, Option, Some, None}
use Rattle.block_disk.specs.DiskState.{DiskState}
use Rattle.block_disk.specs.Claims.{Quiet}
use Rattle.image_core.specs.declared.whole.WholeFault.{WholeFault}
use Rattle.image_core.specs.declared.whole.WholeFault.TheVariants.{DiskFault, ShelfFault}

-- they are told where both tell theirs
abbrev pub files_told : Bool → Option (List (List ℕ)) → List (List ℕ) → Option (List (List ℕ))
files_told true (Some lowers) committed = Some (lowers ++ committed)
files_told true None committed = None
files_told false lowers committed = None

-- Reads that succeeded: nothing changes on the disk, and neither count rises.
pub record ReadsFiles (old new : DiskState) (disk_faults new_disk_faults shelf_faults new_shelf_faults : ℕ) : Type 0 where
  pub quiet : Quiet old new
  pub disk : new_disk_faults ≡ disk_faults
  pub shelf : new_shelf_faults ≡ shelf_faults

-- One that failed: it was the disk or the shelf, whose count rose, and that of the other did not.
pub record FailsFiles (old new : DiskState) (disk_faults new_disk_faults shelf_faults new_shelf_faults : ℕ) (fault : WholeFault) : Type 0 where
  pub quiet : Quiet old new
  pub cause : ((fault ≡ DiskFault) × (disk_faults < new_disk_faults) × (new_shelf_faults ≡ shelf_faults))
      ⊎ ((fault ≡ ShelfFault) × (shelf_faults < new_shelf_faults) × (new_disk_faults ≡ disk_faults))
