-- What a file set holds that a crash left of an image, said without its history.
use Rattle.std.specs.Prelude.{◌≡◌, ℕ, ◌+◌, ◌⊎◌, false, List, ◌++◌, length, Contains, Option, Some, None}
use Rattle.block_disk.specs.DiskState.{Files}
use Rattle.gate_mark.specs.MarkFile as marks
use Rattle.flat_image.specs.declared.act.Asked.{Asked}
use Rattle.flat_image.specs.declared.act.Asked.TheVariants.{Nothing, Uuid, Sectors}
use Rattle.flat_image.specs.declared.base.Base.{Base}
use Rattle.flat_image.specs.Frozen.{Frozen}
use Rattle.flat_image.specs.CanonicalFiles.{file_of}
use Rattle.flat_image.specs.Base.{pending_of, top_uuid, top_size}
use Rattle.flat_image.specs.History.{CanFreeze, CanGrow}
use Rattle.flat_image.specs.Left.{Stand, fresh_stand}
use Rattle.image_core.specs.Numbers.{manifest_file, sealed_file}
use Rattle.image_core.specs.Manifest.{Names, IsWritten, exact_said}
use Rattle.image_core.specs.Shows.{epoch_of, ShowsStand, ShowsFrozen, IsSound, AreSealed}

-- a freeze of the uuid was tried: the body names it, and the files of the next epoch show a top in which nothing was
-- written
pub record FreezeTried (b : Base) (uuid body : List ℕ) (files : Files) : Type 0 where
  pub may : CanFreeze (b.lowers ++ b.done) b.frozen uuid
  pub names : IsWritten body (length b.done) (Some uuid) b.sectors
  pub next : ShowsStand false (length b.done + 1) b.sectors b.lowers (fresh_stand b.sectors) files

-- a seal of the uuid was tried: the body names one layer more, and its file is that of the frozen sheet
pub record SealTried (b : Base) (uuid body : List ℕ) (files : Files) : Type 0 where
  pub frozen : Frozen
  pub is : b.frozen ≡ Some frozen
  pub same : frozen.uuid ≡ uuid
  pub names : IsWritten body (length b.done + 1) None b.sectors
  pub file : files (sealed_file (length b.done))
      ≡ file_of frozen.uuid (top_uuid (b.lowers ++ b.done)) (top_size (length frozen.sheet) (b.lowers ++ b.done)) frozen.sheet

-- a grow to so many sectors was tried, of an image of n with so many committed layers: the body names as many
pub record GrowTried (n done : ℕ) (frozen : Option Frozen) (sectors : ℕ) (body : List ℕ) : Type 0 where
  pub may : CanGrow n frozen sectors
  pub names : IsWritten body done None sectors

-- the step that was asked for this was tried
abbrev pub WasTried : Base → Asked → List ℕ → Files → Type 0
WasTried b Nothing body files = ⊥
WasTried b (Uuid uuid) body files = FreezeTried b uuid body files ⊎ SealTried b uuid body files
WasTried b (Sectors sectors) body files = GrowTried b.sectors (length b.done) b.frozen sectors body

-- The files are those of an image with one of these tops. Its manifest holds a body that names what the image has, or that
-- of one of these steps, which was tried. Layers and tops have the sizes that its format asks for.
pub record FilesFit (b : Base) (tops : List Stand) (attempts : List Asked) (files : Files) : Type 0 where
  pub sequence : ℕ
  pub body : List ℕ
  pub manifest : marks.Shows sequence body (files manifest_file)
  pub named : Names body (length b.done) (pending_of b.frozen) b.sectors ⊎ ((asked : Asked) × Contains attempts asked × WasTried b asked body files)
  pub sound : IsSound (exact_said body) b
  pub done : AreSealed b.done files
  pub frozen : ShowsFrozen (exact_said body) (length b.done) b.sectors b.lowers b.frozen files
  pub top : Stand
  pub among : Contains tops top
  pub shows : ShowsStand (exact_said body) (epoch_of b) b.sectors b.lowers top files
