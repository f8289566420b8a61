-- What an image starts from when it is opened, also where its disk or its shelf does not tell what it holds.
use Rattle.std.specs.Prelude.{◌≡◌, ℕ, List, map, Bool, IsTrue, Option, Some, None}
use Rattle.std.specs.Option.{option_map}
use Rattle.block_disk.specs.DiskState.{Files}
use Rattle.flat_image.specs.declared.base.Base.{Base}
use Rattle.flat_image.specs.Frozen.{Frozen}
use Rattle.flat_image.specs.CanonicalFiles.{blank_file}
use Rattle.sealed_layer.specs.Layers.{LayerIndex}
use Rattle.top_writer.specs.Blank.{blank_sheet}
use Rattle.image_core.specs.Shows.{Shows}
use Rattle.image_core.specs.View.{CommitView, ImageView}

-- layer files with these heads and rows, of which nothing else is known
abbrev pub blank_layers : List LayerIndex → List (List ℕ)
blank_layers layers = map (λ layer. blank_file layer.head layer.rows) layers

-- the commit in progress with such a sheet
abbrev pub blank_frozen : ℕ → Option CommitView → Option Frozen
blank_frozen n commit = option_map (λ c. record { uuid = c.uuid; sheet = blank_sheet n c.table }) commit

-- what an image over these lower layers starts from, where its disk does not tell: what was read of it, with zeros as data
abbrev pub blank_base : List (List ℕ) → ImageView → ℕ → Base
blank_base lowers v faults = record {
  sectors = v.sectors;
  lowers = lowers;
  done = blank_layers v.committed;
  frozen = blank_frozen v.sectors v.commit;
  top = blank_sheet v.sectors v.table;
  rows = v.rows;
  filled = v.filled;
  faults = faults;
}

-- the lower layers that it starts from: the shelf's files where the shelf tells them
abbrev pub lowers_from : Option (List (List ℕ)) → List LayerIndex → List (List ℕ)
lowers_from (Some files) layers = files
lowers_from None layers = blank_layers layers

-- The image in memory, opened on a disk with these files and this count of faults, over lower layers whose files are
-- told or not, starts from the base.
pub record StartsFrom (tells : Bool) (files : Files) (faults : ℕ) (lowers : Option (List (List ℕ))) (v : ImageView) (base : Base) : Type 0 where
  pub lowers_are : base.lowers ≡ lowers_from lowers v.lowers
  pub faults_are : base.faults ≡ faults
  pub told : IsTrue tells → Shows files base
  pub untold : ¬ IsTrue tells → base ≡ blank_base (lowers_from lowers v.lowers) v faults
