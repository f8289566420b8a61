-- What a crash may leave of an image, said without its history: one of some tops, and perhaps a freeze, a seal or a
-- grow that was tried.
use Rattle.std.specs.Prelude.{◌≡◌, ℕ, ◌⊎◌, List, Contains}
use Rattle.block_disk.specs.DiskState.{Files}
use Rattle.flat_image.specs.declared.act.Asked.{Asked}
use Rattle.flat_image.specs.declared.base.Base.{Base}
use Rattle.flat_image.specs.History.{History, now}
use Rattle.flat_image.specs.Left.{Stand, stand, put_top, Kept, Advances}
use Rattle.image_core.specs.Shows.{Shows}

-- the image with one of these tops, or that as one of these steps that were tried would have made it
pub record MayBe (b : Base) (tops : List Stand) (attempts : List Asked) (c : Base) : Type 0 where
  pub top : Stand
  pub among : Contains tops top
  pub is : (c ≡ put_top b top) ⊎ ((asked : Asked) × Contains attempts asked × Advances (put_top b top) asked c)

-- the files show such an image
pub record ShowsMayBe (b : Base) (tops : List Stand) (attempts : List Asked) (files : Files) : Type 0 where
  pub found : Base
  pub shows : Shows files found
  pub may_be : MayBe b tops attempts found

-- the top is that after a beginning of the history which has all that is kept
pub record KeptStand (base : Base) (history : History) (s : Stand) : Type 0 where
  pub front : History
  pub kept : Kept history front
  pub is : s ≡ stand (now base front)
