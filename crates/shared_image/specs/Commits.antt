-- What one turn of a seat notes and answers that freezes, copies, seals, or reads a committed file.
use Rattle.std.specs.Prelude.{◌≡◌, ◌≢◌, ℕ, ◌<◌, List, [], ◌∷◌, ◌++◌, length, map, Contains, Option, Some, None}
use Rattle.flat_image.specs.declared.act.Act.{Act}
use Rattle.flat_image.specs.declared.act.Act.TheVariants.{Freeze, Seal, Fault}
use Rattle.flat_image.specs.declared.act.Asked.TheVariants.{Nothing, Uuid}
use Rattle.flat_image.specs.declared.base.Base.{Base}
use Rattle.flat_image.specs.declared.port_fault.PortFault.{PortFault}
use Rattle.flat_image.specs.declared.port_fault.PortFault.TheVariants as port
use Rattle.flat_image.specs.Entries.{entry}
use Rattle.flat_image.specs.History.{History, now, committed, pending, Allowed, Proper}
use Rattle.flat_image.specs.LayerReading.{uuid_in}
use Rattle.flat_image.specs.Ports.{PortState, IsWorn, Notes}
use Rattle.shared_image.specs.declared.faults.SharedFreezeFault.{SharedFreezeFault}
use Rattle.shared_image.specs.declared.faults.SharedFreezeFault.TheVariants as freeze
use Rattle.shared_image.specs.declared.faults.SharedCopyFault.{SharedCopyFault}
use Rattle.shared_image.specs.declared.faults.SharedCopyFault.TheVariants as copy
use Rattle.shared_image.specs.declared.faults.SharedSealFault.{SharedSealFault}
use Rattle.shared_image.specs.declared.faults.SharedSealFault.TheVariants as seal

-- what the image is made of at the end of what was seen
abbrev pub made_in : PortState → Base
made_in port = now port.base port.seen

-- the lower layers and those committed by then, the lowest first
abbrev pub layers_in : PortState → List (List ℕ)
layers_in port = port.base.lowers ++ committed port.base port.seen

-- the uuid of the commit that is in progress then
abbrev pub pending_in : PortState → Option (List ℕ)
pending_in port = pending port.base port.seen

-- the turn was got, and nothing was noted
abbrev pub NotesNone : PortState → PortState → Type 0
NotesNone old new = ¬ IsWorn new × Notes old new []

-- The step noted this act last, and before it the one that was asked for was allowed.
pub record NotesAllowed (old new : PortState) (noted asked : Act) : Type 0 where
  pub notes : Notes old new (noted ∷ [])
  pub before : History
  pub seen : new.seen ≡ (old.seen ++ before) ++ entry old.number noted ∷ []
  pub allowed : Allowed (now old.base (old.seen ++ before)) asked

-- A freeze that is refused, for the first cause that holds at the end of what was seen. Memory is wanting only where none of
-- them does.
abbrev pub FreezeFails : PortState → PortState → List ℕ → SharedFreezeFault → Type 0
FreezeFails old new uuid freeze.Worn = IsWorn new × Notes old new []
FreezeFails old new uuid (freeze.Busy other) = NotesNone old new × (pending_in new ≡ Some other)
FreezeFails old new uuid freeze.TooMany = NotesNone old new × (pending_in new ≡ None) × (length (layers_in new) ≡ 255)
FreezeFails old new uuid freeze.UuidTwice =
    NotesNone old new × (pending_in new ≡ None) × (length (layers_in new) < 255) × Contains (map uuid_in (layers_in new)) uuid
FreezeFails old new uuid freeze.Memory = NotesNone old new × Allowed (made_in new) (Freeze uuid)
FreezeFails old new uuid freeze.Failed = (old.faults < new.faults) × NotesAllowed old new (Fault (Uuid uuid)) (Freeze uuid)

-- a piece was copied, and nothing noted: the commit with that uuid is in progress
abbrev pub Copies : PortState → PortState → List ℕ → Type 0
Copies old new uuid = NotesNone old new × Allowed (made_in new) (Seal uuid)

-- A copy that is refused. Where another commit is in progress or none, all that was seen is a proper history, so that a commit
-- that was in progress before was sealed since.
abbrev pub CopyFails : PortState → PortState → List ℕ → SharedCopyFault → Type 0
CopyFails old new uuid copy.Worn = IsWorn new × Notes old new []
CopyFails old new uuid (copy.NotPending other) = NotesNone old new × (pending_in new ≡ other) × (other ≢ Some uuid) × Proper new.base new.seen
CopyFails old new uuid copy.Failed = (old.faults < new.faults) × NotesAllowed old new (Fault Nothing) (Seal uuid)

-- a seal that was made, which answers the number of layers committed before it
pub record Seals (old new : PortState) (uuid : List ℕ) (epoch : ℕ) : Type 0 where
  pub sealed : NotesAllowed old new (Seal uuid) (Seal uuid)
  pub epoch_is : epoch ≡ length (committed old.base (old.seen ++ sealed.before))

-- a seal that is refused
abbrev pub SealFails : PortState → PortState → List ℕ → SharedSealFault → Type 0
SealFails old new uuid seal.Worn = IsWorn new × Notes old new []
SealFails old new uuid (seal.NotPending other) = NotesNone old new × (pending_in new ≡ other) × (other ≢ Some uuid) × Proper new.base new.seen
SealFails old new uuid (seal.NotWhole done total) = NotesNone old new × Allowed (made_in new) (Seal uuid) × (done < total)
SealFails old new uuid seal.Failed = (old.faults < new.faults) × NotesAllowed old new (Fault (Uuid uuid)) (Seal uuid)

-- a read of a committed file that is refused
abbrev pub PeekFails : PortState → PortState → PortFault → Type 0
PeekFails old new port.Worn = IsWorn new × Notes old new []
PeekFails old new (port.Full rows sectors) = ⊥
PeekFails old new port.Memory = ⊥
PeekFails old new port.Failed = (old.faults < new.faults) × Notes old new (Fault Nothing ∷ [])
