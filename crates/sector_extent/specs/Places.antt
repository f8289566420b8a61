-- The places of an extent.
use Rattle.std.specs.Prelude.{ℕ, ◌+◌, ◌<◌, ◌≤◌, ◌↔◌, Option, MatchOption}
use Rattle.sector_extent.specs.declared.extent.Extent.{Extent}

-- the sector of that number is in the extent
pub record IsIn (extent : Extent) (place : ℕ) : Type 0 where
  pub from : extent.at ≤ place
  pub below : place < extent.at + extent.count

-- the extent has just the places that are said, and there is no extent where there is no such place
abbrev pub Covers : Option Extent → (ℕ → Type 0) → Type 0
Covers extent Said = MatchOption extent ((p : ℕ) → Said p → ⊥) (λ e. (0 < e.count) × ((p : ℕ) → IsIn e p ↔ Said p))
