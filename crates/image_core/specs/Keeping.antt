-- What an image keeps beside what it stands for, from step to step.
use Rattle.std.specs.Prelude.{◌≡◌, ℕ, ◌+◌, ◌≤◌, List, length, All, Bool, IsTrue}
use Rattle.block_disk.specs.DiskState.{DiskState, Files, Leaves}
use Rattle.flat_image.specs.declared.act.Asked.{Asked}
use Rattle.flat_image.specs.declared.base.Base.{Base}
use Rattle.flat_image.specs.Base.{IsBase, HasFewStretches}
use Rattle.flat_image.specs.History.{History, now, fault_count, Proper}
use Rattle.flat_image.specs.Left.{Stand, Blamed}
use Rattle.image_core.specs.View.{ImageView, IsViewOf, ReadsAsBase}
use Rattle.image_core.specs.FileSets.{FilesFit}
use Rattle.image_core.specs.MayBe.{KeptStand}

-- The image in memory and its disk are those of that base. What a crash leaves has one of these tops, and a manifest that
-- names the base, or one of these steps: a freeze or a seal whose next top or file is whole, or a grow.
pub record HoldsAs (tells : Bool) (disk : DiskState) (v : ImageView) (b : Base) (tops : List Stand) (attempts : List Asked) : Type 0 where
  pub view : IsViewOf b v
  pub told : IsTrue tells → ReadsAsBase disk.seen b v
  pub crash : (files : Files) → Leaves disk files → FilesFit b tops attempts files

-- The image stands for the history, and so with tops that the history keeps and steps that failed in it. A step
-- goes on from this to the same for the longer history.
pub record KeepsFor (tells : Bool) (disk : DiskState) (faults : ℕ) (v : ImageView) (base : Base) (history : History) : Type 0 where
  pub base_is : IsBase base
  pub few : HasFewStretches base
  pub proper : Proper base history
  pub failed : base.faults + fault_count history ≤ faults
  pub steps : v.steps ≡ length history
  pub tops : List Stand
  pub attempts : List Asked
  pub holds : HoldsAs tells disk v (now base history) tops attempts
  pub kept : All (KeptStand base history) tops
  pub blamed : All (Blamed history) attempts
