-- What one turn of a seat of an image notes and answers.
use Rattle.std.specs.Prelude.{◌≡◌, ℕ, ◌+◌, ◌<◌, ◌≤◌, Bool, IsTrue, false, List, [], ◌∷◌, ◌++◌, length}
use Rattle.atomic_table.specs.Seated.{TableId}
use Rattle.sector_extent.specs.declared.extent.Extent.{Extent}
use Rattle.flat_image.specs.declared.act.Act.{Act}
use Rattle.flat_image.specs.declared.act.Act.TheVariants.{Read, Fault}
use Rattle.flat_image.specs.declared.act.Asked.TheVariants.{Nothing}
use Rattle.flat_image.specs.declared.base.Base.{Base}
use Rattle.flat_image.specs.declared.port_fault.PortFault.{PortFault}
use Rattle.flat_image.specs.declared.port_fault.PortFault.TheVariants.{Worn, Full, Memory, Failed}
use Rattle.flat_image.specs.Entries.{entry, calls_by}
use Rattle.flat_image.specs.History.{History, now, size, fault_count}
use Rattle.flat_image.specs.Ports.{PortState, IsWorn, Notes}
use Rattle.top_writer.specs.Gaps.{AreGaps}
use Rattle.turn_lock.specs.Locks.{Lock, Place}
use Rattle.image_core.specs.declared.status.Status.{Status}
use Rattle.image_core.specs.Pieces.{SnapshotView}
use Rattle.image_core.specs.Planning.{IsPlanOf, ReadsBelow}
use Rattle.image_core.specs.Steps.{IsTold}
use Rattle.image_core.specs.Upper.{IsGap}

-- which lock it is, in numbers
abbrev pub home_of : TableId → List ℕ
home_of id = id.words ∷ id.slots ∷ id.views_name ∷ id.atom ∷ id.block ∷ id.offset ∷ id.slot_names

-- A seat of a lock as a port of it, beside a shelf that counted so many faults: its count is that of its own failed steps,
-- and the shelf's.
abbrev pub seat_port : Bool → Lock Base → Place Act → ℕ → PortState
seat_port tells lock seat shelf = record {
  home = home_of seat.lock;
  tells = tells;
  base = lock.base;
  first = lock.first;
  number = seat.number;
  seen = seat.seen;
  faults = fault_count (calls_by seat.number seat.seen) + shelf;
}

-- a call of a seat, seen as one of a port of the lock, whatever shelf it has beside it
abbrev pub AsPort : Lock Base → Place Act → Place Act → (PortState → PortState → Type 0) → Type 0
AsPort lock old new Is = (tells : Bool) (shelf : ℕ) → Is (seat_port tells lock old shelf) (seat_port tells lock new shelf)

-- a seat of the lock, which has not the turn
pub record IsIdleSeat (lock : Lock Base) (seat : Place Act) : Type 0 where
  pub lock_is : seat.lock ≡ lock.id
  pub idle : seat.holds ≡ false

-- the seat after a call: the same one, and idle again
pub record IsSameSeat (old new : Place Act) : Type 0 where
  pub lock : new.lock ≡ old.lock
  pub number : new.number ≡ old.number
  pub idle : new.holds ≡ false

-- A plan that was made noted its read last. It is one of the image at that place, where the disk tells, and its snapshot is
-- that of the layers there.
pub record Plans (told : Bool) (old new : PortState) (e : Extent) (bytes out : List ℕ) (gaps : List Extent) (s : SnapshotView) : Type 0 where
  pub notes : Notes old new (Read e.at e.count ∷ [])
  pub before : History
  pub seen : new.seen ≡ (old.seen ++ before) ++ entry old.number (Read e.at e.count) ∷ []
  pub image : IsTrue told → IsPlanOf (size old.base (old.seen ++ before)) old.base (old.seen ++ before) e.at e.count bytes out
  pub within : e.at + e.count ≤ size old.base (old.seen ++ before)
  pub gaps_are : AreGaps (IsGap (now old.base (old.seen ++ before))) e.at (e.at + e.count) gaps
  pub below : ReadsBelow old.base (old.seen ++ before) s

-- a plan that is refused
abbrev pub PlanFails : PortState → PortState → PortFault → Type 0
PlanFails old new Worn = IsWorn new × Notes old new []
PlanFails old new (Full rows sectors) = ⊥
PlanFails old new Memory = ¬ IsWorn new × Notes old new []
PlanFails old new Failed = (old.faults < new.faults) × Notes old new (Fault Nothing ∷ [])

-- a status says what the image is at the end of what was seen, and how many entries there are
pub record Tells (old new : PortState) (status : Status) (count : ℕ) : Type 0 where
  pub notes : Notes old new []
  pub told : IsTold (now new.base new.seen) status
  pub counted : count ≡ new.first + length new.seen
  pub room : ¬ IsWorn new

-- and is refused only where the history is full
abbrev pub TellFails : PortState → PortState → Type 0
TellFails old new = IsWorn new × Notes old new []
