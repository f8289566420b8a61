-- A block that is being filled.
use Rattle.std.specs.Prelude.{◌≡◌, ℕ, ◌-◌, ◌≤◌, List, length, drop, replicate}

-- of a block of this size the bytes up to a place are filled, and the others are zero
pub record IsFilledTo (block : List ℕ) (at size : ℕ) : Type 0 where
  pub whole : length block ≡ size
  pub within : at ≤ size
  pub zeros : drop at block ≡ replicate (size - at) 0
