-- The fields of the port of one thread, as its own functions see them.
use Rattle.std.specs.Prelude.{ℕ, List, Result, MatchResult, IsErrOf}
use Rattle.sector_extent.specs.Calls.{PlannedCalls}
use Rattle.flat_image.specs.declared.plain_port.PlainParts.{PlainParts}
use Rattle.flat_image.specs.declared.port_fault.PortFault.{PortFault}
use Rattle.flat_image.specs.declared.port_fault.PortFault.TheVariants.{Worn}
use Rattle.flat_image.specs.History.{History}
use Rattle.flat_image.specs.Ports.{PortState, IsWorn, ChargesPort}
use Rattle.flat_image.specs.PlainPorts.{PlainState, port_of, IsPlain, Counts}

-- the fields, without what they have in reserve
pub record PlainView : Type 0 where
  pub sectors : ℕ
  pub bytes : List ℕ
  pub seen : History
  pub rows : ℕ
  pub filled : ℕ
  pub plan : PlannedCalls
  pub faults : ℕ

abbrev pub view_of : PlainParts → PlainView
view_of p = record
    { sectors = p.sectors; bytes = p.image.items; seen = p.entries.items; rows = p.rows; filled = p.filled; plan = p.plan; faults = p.faults.count }

abbrev pub state_of : PlainView → PlainState
state_of v = record { sectors = v.sectors; seen = v.seen; plan = v.plan; faults = v.faults }

abbrev pub port_in : PlainView → PortState
port_in v = port_of (state_of v)

abbrev pub IsPlainView : PlainView → Type 0
IsPlainView v = IsPlain v.sectors v.bytes v.seen v.rows v.filled

-- a call answered as a port's does, and left what it keeps
pub record Answers {T : Type 0} (old new : PlainView) (result : Result T PortFault) (Done : Type 0) (Fails : PortFault → Type 0) : Type 0 where
  pub plain : IsPlainView new
  pub counts : Counts (state_of old) (state_of new) result
  pub answer : MatchResult result (λ _. Done) Fails
  pub cause : ChargesPort (port_in old) (port_in new) result
  pub worn : IsWorn (port_in old) → IsErrOf result Worn
