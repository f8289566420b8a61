-- A grow of an image: what it notes, and why it is refused.
use Rattle.std.specs.Prelude.{◌≡◌, ℕ, ◌≤◌, ◌↔◌, List, Option, Some, None, Result, Ok, Err}
use Rattle.std.specs.Option.{option_map}
use Rattle.flat_image.specs.declared.act.Act.{Act}
use Rattle.flat_image.specs.declared.act.Act.TheVariants.{Grow, Fault}
use Rattle.flat_image.specs.declared.act.Asked.TheVariants.{Sectors}
use Rattle.image_core.specs.declared.growing.GrowFault.{GrowFault}
use Rattle.image_core.specs.declared.growing.GrowFault.TheVariants.{Busy, NotLarger, Failed}
use Rattle.image_core.specs.View.{ImageView}

-- the uuid of the commit in progress
abbrev pub pending_in : ImageView → Option (List ℕ)
pending_in v = option_map (λ c. c.uuid) v.commit

-- what a grow notes: its act, a fault where the disk failed, and nothing where it was refused
abbrev pub noted_grow : {T : Type 0} → ℕ → Result T GrowFault → Option Act
noted_grow sectors (Ok value) = Some (Grow sectors)
noted_grow sectors (Err (Busy uuid)) = None
noted_grow sectors (Err (NotLarger n)) = None
noted_grow sectors (Err Failed) = Some (Fault (Sectors sectors))

-- A grow to so many sectors, of an image of n with that commit in progress or none: it is refused as busy just where there
-- is one, and else as no larger just where the image has as many, with what it has.
pub record IsRefusedGrow {T : Type 0} (pending : Option (List ℕ)) (n sectors : ℕ) (outcome : Result T GrowFault) : Type 0 where
  pub busy : (uuid : List ℕ) → (pending ≡ Some uuid) ↔ (outcome ≡ Err (Busy uuid))
  pub larger : ((pending ≡ None) × (sectors ≤ n)) ↔ (outcome ≡ Err (NotLarger n))
  pub only : (m : ℕ) → outcome ≡ Err (NotLarger m) → m ≡ n
