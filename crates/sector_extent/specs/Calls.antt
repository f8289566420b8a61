-- The calls of an object in memory.
use Rattle.std.specs.Prelude.{ℕ, List}

-- the numbers of the calls that fail, and the number of the next call
pub record PlannedCalls : Type 0 where
  pub failing : List ℕ
  pub calls : ℕ
