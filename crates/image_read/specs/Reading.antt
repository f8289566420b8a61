-- What a reader of a shared image is made of, and comes to.
use Rattle.std.specs.Prelude.{◌≡◌, ℕ, ◌+◌, ◌^◌, ◌<◌, ◌≤◌, ◌&&◌, ◌⊎◌, Bool, false, is_some, List, [], ◌∷◌, length, take, Option}
use Rattle.flat_image.specs.declared.act.Act.{Act}
use Rattle.flat_image.specs.declared.act.Act.TheVariants.{Fault}
use Rattle.flat_image.specs.declared.act.Asked.TheVariants.{Nothing}
use Rattle.flat_image.specs.declared.base.Base.{Base}
use Rattle.flat_image.specs.declared.port_fault.PortFault.{PortFault}
use Rattle.flat_image.specs.declared.port_fault.PortFault.TheVariants.{Worn, Full, Memory, Failed}
use Rattle.flat_image.specs.Entries.{calls_by}
use Rattle.flat_image.specs.History.{fault_count}
use Rattle.flat_image.specs.Ports.{PortState, IsWorn, Notes}
use Rattle.turn_lock.specs.Locks.{Lock, Place}
use Rattle.shared_image.specs.Turns.{home_of, seat_port}

-- The seat is idle, and this port is one of it, beside a shelf that counted so many faults.
pub record IsSeatOf (port : PortState) (seat : Place Act) (shelf : ℕ) : Type 0 where
  pub home : port.home ≡ home_of seat.lock
  pub number : port.number ≡ seat.number
  pub seen : port.seen ≡ seat.seen
  pub faults : port.faults ≡ fault_count (calls_by seat.number seat.seen) + shelf
  pub idle : seat.holds ≡ false
  pub counted : port.first + length port.seen ≤ 2 ^ 62

-- the port of a seat beside a shelf with these files, or with files that it does not tell, which tells where the disk and
-- the shelf do
abbrev pub reader_port : Bool → Option (List (List ℕ)) → Lock Base → Place Act → ℕ → PortState
reader_port disk files lock seat shelf = seat_port (disk && is_some files) lock seat shelf

-- these files are still there, and stand first
abbrev pub StillThere : List (List ℕ) → List (List ℕ) → Type 0
StillThere files done = take (length done) files ≡ done

-- layers were read: the port noted nothing, and met no fault
pub record ReadsOn (old new : PortState) : Type 0 where
  pub notes : Notes old new []
  pub calm : new.faults ≡ old.faults

-- A layer was not read: the history is full, or the shelf failed, or the disk did, which is an entry of its own.
abbrev pub FailsOn : PortState → PortState → PortFault → Type 0
FailsOn old new Worn = IsWorn new × ReadsOn old new
FailsOn old new (Full rows sectors) = ⊥
FailsOn old new Memory = ⊥
FailsOn old new Failed = (old.faults < new.faults) × (Notes old new [] ⊎ Notes old new (Fault Nothing ∷ []))
