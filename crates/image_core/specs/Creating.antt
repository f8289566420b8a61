-- What an image is made over.
use Rattle.std.specs.Prelude.{◌≡◌, ◌≢◌, ℕ, ◌≤◌, ◌⊎◌, Bool, true, false, IsTrue, List, length, Result, Err, None}
use Rattle.block_disk.specs.DiskState.{DiskState, Files}
use Rattle.block_disk.specs.Changes.{Only}
use Rattle.block_disk.specs.Claims.{LeavesOnly}
use Rattle.gate_mark.specs.MarkFile.{mark_of, new_mark}
use Rattle.lsmt_header.specs.declared.head.Kind.TheVariants.{TopBytes, TopRows}
use Rattle.lsmt_header.specs.Blocks.{nil, BlockOf}
use Rattle.top_writer.specs.Files.{data_file, index_file, new_head}
use Rattle.flat_image.specs.declared.base.Base.{Base}
use Rattle.flat_image.specs.Base.{fresh}
use Rattle.sealed_layer.specs.Layers.{LayerIndex}
use Rattle.image_core.specs.declared.creating.CreateFault.{CreateFault}
use Rattle.image_core.specs.declared.creating.CreateFault.TheVariants.{Exists, Failed}
use Rattle.image_core.specs.Loading.{heads_in, AreStackOrNone}
use Rattle.image_core.specs.Manifest.{IsWritten}
use Rattle.image_core.specs.Numbers.{manifest_file}
use Rattle.image_core.specs.Seen.{Seen}
use Rattle.image_core.specs.Shows.{HaveSize}

-- the layers, the lowest first, have no more than n sectors and form a stack, or there are none
pub record AreLegal (n : ℕ) (layers : List LayerIndex) : Type 0 where
  pub few : length layers ≤ 255
  pub sizes : HaveSize false n (heads_in layers)
  pub legal : AreStackOrNone layers

-- an image over these layers in which nothing was written, opened at that count of faults
abbrev pub fresh_at : ℕ → List (List ℕ) → ℕ → Base
fresh_at n lowers faults = record (fresh n lowers) { faults = faults }

-- a refusal as there being an image tells that the manifest holds a mark, and where it does no other answer comes but a fault
pub record TellsExists {T : Type 0} (manifest : List ℕ) (result : Result T CreateFault) : Type 0 where
  pub only : result ≡ Err Exists → mark_of manifest ≢ None
  pub always : mark_of manifest ≢ None → (result ≡ Err Exists) ⊎ (result ≡ Err Failed)

-- The manifest was just made for an image of n sectors: it is a new mark with a body that was written so. Where the disk
-- tells it reads as that, and a crash leaves nothing else of it.
pub record IsNewManifest (n : ℕ) (image : Seen) : Type 0 where
  pub body : List ℕ
  pub written : IsWritten body 0 None n
  pub left : Only (new_mark body) (image.state.may_leave manifest_file)
  pub reads : IsTrue image.tells → image.state.seen manifest_file ≡ new_mark body

-- the files of the first top have the heads of a new one, over the layer with that uuid
pub record HaveNewHeads (n : ℕ) (parent : List ℕ) (files : Files) : Type 0 where
  pub bytes : BlockOf (files (data_file 0)) (new_head TopBytes n parent)
  pub rows : BlockOf (files (index_file 0)) (new_head TopRows n nil)

-- what a crash leaves while an image is made: of the manifest what it might have left at first, until that is begun; from
-- then on the files of the top have their heads
abbrev pub LeavesInOrder : ℕ → List ℕ → DiskState → Bool → Files → Type 0
LeavesInOrder n parent old false files = old.may_leave manifest_file (files manifest_file)
LeavesInOrder n parent old true files = HaveNewHeads n parent files

-- the manifest is made last
abbrev pub IsMadeLast : ℕ → List ℕ → DiskState → DiskState → Type 0
IsMadeLast n parent old new = LeavesOnly old new (LeavesInOrder n parent old)
