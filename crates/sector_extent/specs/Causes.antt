-- When a count of faults rises.
use Rattle.std.specs.Prelude.{ℕ, ◌<◌, ◌≤◌}

-- In a call the count of faults never falls, and it rises just where the answer is this fault.
pub record Charges {S : Type 0} (count : S → ℕ) (old new : S) (fault : Type 0) : Type 0 where
  pub later : count old ≤ count new
  pub failed : fault → count old < count new
  pub only : count old < count new → fault
