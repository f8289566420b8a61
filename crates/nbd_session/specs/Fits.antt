-- That a port gave these answers to what was put to it, in order and with nothing besides.
use Rattle.std.specs.Prelude.{◌≡◌, ℕ, ◌⊎◌, Bool, true, false, List, [], ◌∷◌}
use Rattle.sector_extent.specs.Causes.{Charges}
use Rattle.flat_image.specs.declared.act.Act.{Act}
use Rattle.flat_image.specs.declared.act.Act.TheVariants as act
use Rattle.flat_image.specs.declared.port_fault.PortFault.TheVariants as fault
use Rattle.flat_image.specs.Ports.{PortState, IsWorn, fault_count, Notes, IsOverFor, Reads, ReadFails, Makes, ChangeFails, Flushes, FlushFails}
use Rattle.nbd_session.specs.declared.errno.Errno.{Errno}
use Rattle.nbd_session.specs.declared.errno.Errno.TheVariants.{Permission, InputOutput, Memory, Invalid, Space, Shutdown}
use Rattle.nbd_session.specs.declared.job.Job.{Job}
use Rattle.nbd_session.specs.declared.job.Job.TheVariants.{Read, Write, Zero, Flush}
use Rattle.nbd_session.specs.Replies.{Answer, Good, Bad}
use Rattle.nbd_session.specs.Talks.{Passed}

-- a READ is refused as the port's read is, or for want of memory before anything was put to the port
abbrev pub ReadRefused : PortState → PortState → ℕ → ℕ → Errno → Type 0
ReadRefused old new at count Permission = ⊥
ReadRefused old new at count InputOutput = ReadFails old new at count fault.Failed
ReadRefused old new at count Memory = (new ≡ old) ⊎ ReadFails old new at count fault.Memory
ReadRefused old new at count Invalid = ⊥
ReadRefused old new at count Space = ⊥
ReadRefused old new at count Shutdown = ReadFails old new at count fault.Worn

-- a change is refused as the port's write or zero is, or for want of memory before anything was put to the port
abbrev pub ChangeRefused : PortState → PortState → Act → Errno → Type 0
ChangeRefused old new change Permission = ⊥
ChangeRefused old new change InputOutput = ChangeFails old new change fault.Failed
ChangeRefused old new change Memory = (new ≡ old) ⊎ ChangeFails old new change fault.Memory
ChangeRefused old new change Invalid = ⊥
ChangeRefused old new change Space = ¬ IsWorn new × IsOverFor new.base new.seen change × Notes old new []
ChangeRefused old new change Shutdown = ChangeFails old new change fault.Worn

-- a flush is refused as the port's is, whose flush may take memory or not
abbrev pub FlushRefused : Bool → PortState → PortState → Errno → Type 0
FlushRefused takes old new Permission = ⊥
FlushRefused takes old new InputOutput = FlushFails takes old new fault.Failed
FlushRefused takes old new Memory = FlushFails takes old new fault.Memory
FlushRefused takes old new Invalid = ⊥
FlushRefused takes old new Space = ⊥
FlushRefused takes old new Shutdown = FlushFails takes old new fault.Worn

-- a flush, and its answer
abbrev pub Flushed : Bool → PortState → PortState → Answer → Type 0
Flushed takes old new (Good bytes) = (bytes ≡ []) × Flushes old new
Flushed takes old new (Bad errno) = FlushRefused takes old new errno

-- a change, and behind it a flush where one is asked for: then the flush's answer is the answer, and the change stands
abbrev pub Changes : Bool → PortState → PortState → Act → Bool → Answer → Type 0
Changes takes old new change false (Good bytes) = (bytes ≡ []) × Makes old new change
Changes takes old new change false (Bad errno) = ChangeRefused old new change errno
Changes takes old new change true (Good bytes) = (mid : PortState) × Makes old mid change × Flushed takes mid new (Good bytes)
Changes takes old new change true (Bad errno) = ChangeRefused old new change errno ⊎ ((mid : PortState) × Makes old mid change × FlushRefused takes mid new errno)

-- what follows a change that was made: a flush where one is asked for, or nothing
abbrev pub Follows : Bool → PortState → PortState → Bool → Answer → Type 0
Follows takes mid new false answer = (answer ≡ Good []) × (new ≡ mid)
Follows takes mid new true answer = Flushed takes mid new answer

-- what the port noted at one request, with its data, and its answer
abbrev pub Does : Bool → PortState → PortState → Job → List ℕ → Answer → Type 0
Does takes old new (Read at count) items (Good bytes) = Reads old new at count bytes
Does takes old new (Read at count) items (Bad errno) = ReadRefused old new at count errno
Does takes old new (Write at count fua) items answer = Changes takes old new (act.Write at items) fua answer
Does takes old new (Zero at count fua) items answer = Changes takes old new (act.Zero at count) fua answer
Does takes old new Flush items answer = Flushed takes old new answer

-- the port met a fault just where the answer is EIO
abbrev pub ChargesAnswer : PortState → PortState → Answer → Type 0
ChargesAnswer old new answer = Charges fault_count old new (answer ≡ Bad InputOutput)

-- one request that was put to the port, with its answer
pub record Passes (takes : Bool) (old new : PortState) (passed : Passed) (answer : Answer) : Type 0 where
  pub does : Does takes old new passed.job passed.bytes answer
  pub cause : ChargesAnswer old new answer

-- the requests that were put to the port have one answer each, and nothing else was put to it
abbrev pub Fits : Bool → PortState → List Passed → List Answer → PortState → Type 0
Fits takes old [] [] new = new ≡ old
Fits takes old [] (answer ∷ answers) new = ⊥
Fits takes old (passed ∷ others) [] new = ⊥
Fits takes old (passed ∷ others) (answer ∷ answers) new = (mid : PortState) × Passes takes old mid passed answer × Fits takes mid others answers new
