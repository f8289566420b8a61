-- What contracts see of a port of one thread over an image in memory.
use Rattle.std.specs.Prelude.{◌≡◌, ℕ, ◌+◌, ◌*◌, ◌-◌, ◌^◌, ◌≤◌, Bool, true, List, [], ◌∷◌, ◌++◌, length, map, min, Result, OnOk, IsErrOf, Contains}
use Rattle.sector_extent.specs.Calls.{PlannedCalls}
use Rattle.flat_image.specs.declared.act.Act.{Act}
use Rattle.flat_image.specs.declared.act.Act.TheVariants.{Fault}
use Rattle.flat_image.specs.declared.act.Asked.TheVariants.{Nothing}
use Rattle.flat_image.specs.declared.port_fault.PortFault.{PortFault}
use Rattle.flat_image.specs.declared.port_fault.PortFault.TheVariants.{Worn, Full, Memory, Failed}
use Rattle.flat_image.specs.Sheets.{bytes_of}
use Rattle.flat_image.specs.Base.{fresh}
use Rattle.flat_image.specs.Entries.{entry}
use Rattle.flat_image.specs.History.{History, after, used_rows, used_sectors, HasRoom}
use Rattle.flat_image.specs.Ports.{PortState}

-- the number of sectors, the entries, which calls fail, and the faults so far
pub record PlainState : Type 0 where
  pub sectors : ℕ
  pub seen : History
  pub plan : PlannedCalls
  pub faults : ℕ

-- as a port: over an image without layers, with number 0, and no entry before its own
abbrev pub port_of : PlainState → PortState
port_of s = record { home = []; tells = true; base = fresh s.sectors []; first = 0; number = 0; seen = s.seen; faults = s.faults }

-- the bytes are the image after the entries, and the rows and the sectors are those that they use
pub record IsPlain (sectors : ℕ) (bytes : List ℕ) (seen : History) (rows filled : ℕ) : Type 0 where
  pub some : 1 ≤ sectors
  pub small : sectors ≤ 2 ^ 31
  pub size : length bytes ≡ 512 * sectors
  pub content : bytes ≡ bytes_of (after (fresh sectors []) seen)
  pub rows_are : rows ≡ used_rows (fresh sectors []) seen
  pub filled_are : filled ≡ used_sectors (fresh sectors []) seen
  pub room : HasRoom rows filled
  pub limit : length seen ≤ 2 ^ 62

-- the plan after a call
abbrev pub counted : PlannedCalls → PlannedCalls
counted plan = record plan { calls = min (plan.calls + 1) (2 ^ 64 - 1) }

-- a call fails by itself only where it was named to, and then it does not succeed
pub record AsPlanned {T : Type 0} (plan : PlannedCalls) (result : Result T PortFault) : Type 0 where
  pub named : IsErrOf result Failed → Contains plan.failing plan.calls
  pub spared : OnOk result (Contains plan.failing plan.calls → ⊥)

-- a call was counted, answered as the plan says, and noted its own acts alone
pub record Counts {T : Type 0} (old new : PlainState) (result : Result T PortFault) : Type 0 where
  pub sectors : new.sectors ≡ old.sectors
  pub alone : (acts : List Act) × (new.seen ≡ old.seen ++ map (entry 0) acts)
  pub plan : new.plan ≡ counted old.plan
  pub planned : AsPlanned old.plan result

-- what a call that notes an act leaves of the entries and of the faults, where it is refused
abbrev pub NoteFails : Bool → History → History → ℕ → ℕ → PortFault → Type 0
NoteFails fails old new faults faults_now Memory = (new ≡ old) × (faults_now ≡ faults)
NoteFails fails old new faults faults_now Failed = (fails ≡ true) × (new ≡ old ++ entry 0 (Fault Nothing) ∷ []) × (faults_now ≡ faults + 1)
NoteFails fails old new faults faults_now (Full rows sectors) = ⊥
NoteFails fails old new faults faults_now Worn = ⊥

-- nothing was called yet
pub record IsFresh (sectors : ℕ) (failing : List ℕ) (port : PlainState) : Type 0 where
  pub size : port.sectors ≡ sectors
  pub unseen : port.seen ≡ []
  pub plan : port.plan ≡ record { failing = failing; calls = 0 }
  pub sound : port.faults ≡ 0
