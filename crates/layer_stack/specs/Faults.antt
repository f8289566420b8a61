-- Which fault of a stack is the first one.
use Rattle.std.specs.Prelude.{◌≡◌, ◌≢◌, ℕ, ◌<◌, ◌≤◌, List, [], ◌∷◌, ◌++◌, length, map, All, Some, slice_get}
use Rattle.lsmt_header.specs.declared.head.Head.{Head}
use Rattle.flat_image.specs.Stacks.{uppermost, StandsOn, AreSizedOver, AreStacked, AreUnlike}
use Rattle.lsmt_header.specs.Blocks.{nil}
use Rattle.layer_stack.specs.declared.fault.StackFault.{StackFault}
use Rattle.layer_stack.specs.declared.fault.StackFault.TheVariants.{Empty, TooMany, SizeDiffers, ParentDiffers, UuidTwice}

-- the uuid and the sectors of the uppermost of these heads, or the given ones where there is none
abbrev pub top_uuid : List ℕ → List Head → List ℕ
top_uuid uuid heads = uppermost uuid (map (λ head. head.uuid) heads)

abbrev pub top_sectors : ℕ → List Head → ℕ
top_sectors n heads = uppermost n (map (λ head. head.sectors) heads)

-- the head may stand over the uppermost of the heads below it, if there is one
abbrev pub HasSize : List Head → Head → Type 0
HasSize [] head = Unit {0}
HasSize (lowest ∷ above) head = StandsOn (top_sectors lowest.sectors above) head

-- the parent of the head is the uuid of the one below it, or nil where there is none
abbrev pub HasParent : List Head → Head → Type 0
HasParent below head = head.parent ≡ top_uuid nil below

-- none of the heads below has the uuid of this one
abbrev pub HasOwnUuid : List Head → Head → Type 0
HasOwnUuid below head = All (λ other. other.uuid ≢ head.uuid) below

-- the head below of that number has the uuid of this one
abbrev pub SharesUuid : List Head → ℕ → Head → Type 0
SharesUuid below number head = (other : Head) × (slice_get below number ≡ Some other) × (other.uuid ≡ head.uuid)

-- a head over the heads below it has none of the faults
pub record IsFreeOver (below : List Head) (head : Head) : Type 0 where
  pub size : HasSize below head
  pub parent : HasParent below head
  pub uuid : HasOwnUuid below head

-- the first fault of a head over the heads below it
abbrev pub IsFaultOver : List Head → Head → StackFault → Type 0
IsFaultOver below head (SizeDiffers number) = (number ≡ length below) × (HasSize below head → ⊥)
IsFaultOver below head (ParentDiffers number) = (number ≡ length below) × HasSize below head × (HasParent below head → ⊥)
IsFaultOver below head (UuidTwice first number) =
    (number ≡ length below) × HasSize below head × HasParent below head × SharesUuid below first head
IsFaultOver below head Empty = ⊥
IsFaultOver below head (TooMany count) = ⊥

-- each of the heads has none of the faults over those below it
pub record AreFree (heads : List Head) : Type 0 where
  pub sizes : AreSizedOver heads
  pub stacked : AreStacked nil heads
  pub unlike : AreUnlike heads

-- the lowest head that has a fault, and the first one that it has
pub record IsLowestFault (heads : List Head) (fault : StackFault) : Type 0 where
  pub few : length heads ≤ 255
  pub below : List Head
  pub head : Head
  pub above : List Head
  pub split : heads ≡ below ++ head ∷ above
  pub free : AreFree below
  pub is_fault : IsFaultOver below head fault

-- the first fault of the heads of layers, the lowest first
abbrev pub IsStackFault : List Head → StackFault → Type 0
IsStackFault heads Empty = heads ≡ []
IsStackFault heads (TooMany count) = (count ≡ length heads) × (255 < length heads)
IsStackFault heads (SizeDiffers number) = IsLowestFault heads (SizeDiffers number)
IsStackFault heads (ParentDiffers number) = IsLowestFault heads (ParentDiffers number)
IsStackFault heads (UuidTwice first number) = IsLowestFault heads (UuidTwice first number)
