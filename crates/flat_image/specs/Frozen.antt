-- A sheet that is to become a layer.
use Rattle.std.specs.Prelude.{ℕ, List}
use Rattle.flat_image.specs.Sheets.{Cell}

-- a sheet that was frozen, and the uuid of the layer that it becomes
pub record Frozen : Type 0 where
  pub uuid : List ℕ
  pub sheet : List Cell
