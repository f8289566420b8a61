-- What the files of a disk show of an image, over lower layers.
use Rattle.std.specs.Prelude.{◌≡◌, ℕ, zero, suc, ◌+◌, ◌^◌, ◌<◌, ◌≤◌, ◌⊎◌, List, [], ◌∷◌, ◌++◌, length, map, slice_index_or, Contains, All, Bool, Option, Some, None, IfSome}
use Rattle.block_disk.specs.DiskState.{Files}
use Rattle.gate_mark.specs.MarkFile as marks
use Rattle.lsmt_header.specs.declared.head.Head.{Head}
use Rattle.lsmt_header.specs.Blocks.{IsSize}
use Rattle.flat_image.specs.declared.base.Base.{Base}
use Rattle.flat_image.specs.Frozen.{Frozen}
use Rattle.flat_image.specs.LayerFiles.{AreHeadsOf}
use Rattle.flat_image.specs.LayerReading.{uuid_in}
use Rattle.flat_image.specs.Stacks.{Legal}
use Rattle.flat_image.specs.Base.{pending_of, top_uuid}
use Rattle.flat_image.specs.Left.{Stand, stand}
use Rattle.top_writer.specs.Files.{stored_in, TopFiles, IsSizeFor, HeadsAsked, asked_of}
use Rattle.top_writer.specs.Showing.{ShowsTop}
use Rattle.image_core.specs.Numbers.{manifest_file, sealed_file, with_pending}
use Rattle.image_core.specs.Manifest.{Names, exact_said}

-- the epoch of the top of an image: how many layers it has committed, and one more where a commit is in progress
abbrev pub epoch_of : Base → ℕ
epoch_of b = with_pending (length b.done) (pending_of b.frozen)

-- each head has no more than n sectors; where that is exact, just n
abbrev pub HaveSize : Bool → ℕ → List Head → Type 0
HaveSize exact n heads = All (λ head. IsSizeFor exact n head.sectors) heads

-- the files, the lowest first, are those of layers of such sizes that form a stack, or there are none
pub record AreStack (exact : Bool) (n : ℕ) (files : List (List ℕ)) : Type 0 where
  pub heads : List Head
  pub are : AreHeadsOf files heads
  pub sizes : HaveSize exact n heads
  pub legal : 1 ≤ length files → Legal heads

-- the parent that the first top names: the uppermost of the lowers. No other top is asked for one.
abbrev pub parent_asked : ℕ → List (List ℕ) → Option (List ℕ)
parent_asked zero lowers = Some (top_uuid lowers)
parent_asked (suc epoch) lowers = None

-- what is asked of the heads of a top: its parent, and sectors that are the image's, or no more
abbrev pub heads_asked : Bool → ℕ → List (List ℕ) → HeadsAsked
heads_asked exact epoch lowers = asked_of exact (parent_asked epoch lowers)

-- the files of the epoch show a top of an image of n sectors
abbrev pub ShowsStand : Bool → ℕ → ℕ → List (List ℕ) → Stand → Files → Type 0
ShowsStand exact epoch n lowers s files = ShowsTop n (heads_asked exact epoch lowers) s (stored_in epoch files)

-- the files of the epoch show a top with the frozen sheet, whatever rows and sectors it has
pub record ShowsSheet (exact : Bool) (epoch n : ℕ) (lowers : List (List ℕ)) (f : Frozen) (files : Files) : Type 0 where
  pub rows : ℕ
  pub filled : ℕ
  pub shows : ShowsStand exact epoch n lowers (record { cells = f.sheet; rows = rows; filled = filled }) files

-- and so where a sheet is frozen
abbrev pub ShowsFrozen : Bool → ℕ → ℕ → List (List ℕ) → Option Frozen → Files → Type 0
ShowsFrozen exact epoch n lowers None files = Unit {0}
ShowsFrozen exact epoch n lowers (Some f) files = ShowsSheet exact epoch n lowers f files

-- what holds of an image whatever its files: its size and how many layers it has, that these form a stack and have no more
-- sectors than it, or just as many where that is exact, and that the uuid in progress is none of theirs
pub record IsSound (exact : Bool) (b : Base) : Type 0 where
  pub size : IsSize b.sectors
  pub few : with_pending (length b.lowers + length b.done) (pending_of b.frozen) ≤ 255
  pub stack : AreStack exact b.sectors (b.lowers ++ b.done)
  pub unlike : IfSome (pending_of b.frozen) (λ uuid. Contains (map uuid_in (b.lowers ++ b.done)) uuid → ⊥)

-- the sealed files of the first epochs are these, byte for byte
abbrev pub AreSealed : List (List ℕ) → Files → Type 0
AreSealed done files = (k : ℕ) → k < length done → files (sealed_file k) ≡ slice_index_or done k []

-- The files show what an image starts from, over its lower layers: the manifest names what the image has, its sealed
-- files are the layers that it committed, the layers form a stack, and the files of its tops show them. Files that the
-- manifest does not name are not looked at. Its format says only whether layers and tops may have fewer sectors.
pub record Shows (files : Files) (base : Base) : Type 0 where
  pub sequence : ℕ
  pub body : List ℕ
  pub manifest : marks.Shows sequence body (files manifest_file)
  pub names : Names body (length base.done) (pending_of base.frozen) base.sectors
  pub sound : IsSound (exact_said body) base
  pub done : AreSealed base.done files
  pub frozen : ShowsFrozen (exact_said body) (length base.done) base.sectors base.lowers base.frozen files
  pub top : ShowsStand (exact_said body) (epoch_of base) base.sectors base.lowers (stand base) files

-- the mark of the frozen top, where there is one, has a sequence of at most 2^61
abbrev pub IsFrozenUnworn : (exact : Bool) (epoch n : ℕ) (lowers : List (List ℕ)) (frozen : Option Frozen) (files : Files)
    → ShowsFrozen exact epoch n lowers frozen files → Type 0
IsFrozenUnworn exact epoch n lowers None files shows = Unit {0}
IsFrozenUnworn exact epoch n lowers (Some f) files shows = shows.shows.sequence ≤ 2 ^ 61

-- neither the manifest nor a mark of a top has a sequence over 2^61
pub record IsUnworn (files : Files) (base : Base) (shows : Shows files base) : Type 0 where
  pub manifest : shows.sequence ≤ 2 ^ 61
  pub frozen : IsFrozenUnworn (exact_said shows.body) (length base.done) base.sectors base.lowers base.frozen files shows.frozen
  pub top : shows.top.sequence ≤ 2 ^ 61

-- the file is one of the frozen top's, where there is one
abbrev pub IsFrozenFile : ℕ → Option Frozen → ℕ → Type 0
IsFrozenFile epoch None f = ⊥
IsFrozenFile epoch (Some frozen) f = TopFiles epoch f

-- the file is one that the manifest of an image names: the manifest, a committed layer, or a file of a top
abbrev pub IsNamed : Base → ℕ → Type 0
IsNamed b f = (f ≡ manifest_file) ⊎ ((k : ℕ) × (k < length b.done) × (f ≡ sealed_file k)) ⊎ IsFrozenFile (length b.done) b.frozen f ⊎ TopFiles (epoch_of b) f
