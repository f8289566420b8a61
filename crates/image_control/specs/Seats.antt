-- The seat of a port.
use Rattle.std.specs.Prelude.{◌≡◌, ℕ, ◌+◌, false}
use Rattle.flat_image.specs.declared.act.Act.{Act}
use Rattle.flat_image.specs.Entries.{calls_by}
use Rattle.flat_image.specs.History.{fault_count}
use Rattle.flat_image.specs.Ports.{PortState}
use Rattle.turn_lock.specs.Locks.{Place}
use Rattle.shared_image.specs.Turns.{home_of}

-- the seat is that of the port
pub record IsSeatOf (port : PortState) (seat : Place Act) : Type 0 where
  pub home : port.home ≡ home_of seat.lock
  pub number : port.number ≡ seat.number
  pub seen : port.seen ≡ seat.seen
  pub idle : seat.holds ≡ false

-- the port has counted the failed steps of the seat, and what its shelf has counted
abbrev pub HasCounted : PortState → Place Act → ℕ → Type 0
HasCounted port seat shelf = port.faults ≡ fault_count (calls_by seat.number seat.seen) + shelf
