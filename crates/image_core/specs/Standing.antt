-- When an image and its disk stand for a history over a base.
use Rattle.std.specs.Prelude.{◌≡◌, ℕ, ◌+◌, ◌≤◌, length, Bool, IsTrue}
use Rattle.block_disk.specs.DiskState.{DiskState, Files, Leaves}
use Rattle.flat_image.specs.declared.base.Base.{Base}
use Rattle.flat_image.specs.Base.{IsBase, HasFewStretches}
use Rattle.flat_image.specs.History.{History, now, fault_count, Proper}
use Rattle.flat_image.specs.Left.{Left}
use Rattle.image_core.specs.Shows.{Shows}
use Rattle.image_core.specs.View.{ImageView, IsViewOf, ReadsAsBase}

-- the files show what a crash may leave of the history
pub record ShowsLeft (base : Base) (history : History) (files : Files) : Type 0 where
  pub found : Base
  pub shows : Shows files found
  pub left : Left base history found

-- The image in memory, with a disk in this state and with this count of faults, stands for the history over the base.
pub record ViewStands (tells : Bool) (disk : DiskState) (faults : ℕ) (v : ImageView) (base : Base) (history : History) : Type 0 where
  pub base_is : IsBase base
  pub few : HasFewStretches base
  pub proper : Proper base history
  pub view : IsViewOf (now base history) v
  pub told : IsTrue tells → ReadsAsBase disk.seen (now base history) v
  pub crash : (files : Files) → Leaves disk files → ShowsLeft base history files
  pub failed : base.faults + fault_count history ≤ faults
  pub steps : v.steps ≡ length history
