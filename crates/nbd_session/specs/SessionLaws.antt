-- What it comes to that answers fit, said of the history that the port saw: what each request noted, in order, and when
-- each error may come.
use Rattle.std.specs.Prelude.{◌≡◌, ℕ, ◌+◌, ◌^◌, ◌<◌, ◌≤◌, ◌==◌, ◌⊎◌, Bool, IsTrue, true, false, List, [], ◌∷◌, ◌++◌, length, map, count_by, ⊤}
use Rattle.flat_image.specs.declared.act.Act.{Act}
use Rattle.flat_image.specs.declared.act.Act.TheVariants as act
use Rattle.flat_image.specs.declared.act.Asked.TheVariants.{Nothing}
use Rattle.flat_image.specs.declared.base.Base.{Base}
use Rattle.flat_image.specs.Entries.{entry, calls_by, StartsWith}
use Rattle.flat_image.specs.History.{History, reply}
use Rattle.flat_image.specs.Ports.{PortState, IsWorn, HasRoomFor, IsOverFor}
use Rattle.nbd_session.specs.declared.errno.Errno.{Errno}
use Rattle.nbd_session.specs.declared.errno.Errno.TheVariants.{Permission, InputOutput, Memory, Invalid, Space, Shutdown}
use Rattle.nbd_session.specs.declared.job.Job.{Job}
use Rattle.nbd_session.specs.declared.job.Job.TheVariants.{Read, Write, Zero, Flush}
use Rattle.nbd_session.specs.Replies.{Answer, Good, Bad, errno_number}
use Rattle.nbd_session.specs.Talks.{Passed}

-- ---- what a request notes, by its answer

-- a read
abbrev pub ReadNotes : ℕ → ℕ → Answer → List Act → Type 0
ReadNotes at count (Good bytes) noted = noted ≡ act.Read at count ∷ []
ReadNotes at count (Bad Permission) noted = ⊥
ReadNotes at count (Bad InputOutput) noted =
    (noted ≡ act.Fault Nothing ∷ []) ⊎ ((noted ≡ act.Read at count ∷ []) ⊎ (noted ≡ act.Read at count ∷ act.Fault Nothing ∷ []))
ReadNotes at count (Bad Memory) noted = (noted ≡ []) ⊎ (noted ≡ act.Read at count ∷ [])
ReadNotes at count (Bad Invalid) noted = ⊥
ReadNotes at count (Bad Space) noted = ⊥
ReadNotes at count (Bad Shutdown) noted = (noted ≡ []) ⊎ (noted ≡ act.Read at count ∷ [])

-- a write, a zero or a flush
abbrev pub CallNotes : Act → Answer → List Act → Type 0
CallNotes call (Good bytes) noted = noted ≡ call ∷ []
CallNotes call (Bad Permission) noted = ⊥
CallNotes call (Bad InputOutput) noted = noted ≡ act.Fault Nothing ∷ []
CallNotes call (Bad Memory) noted = noted ≡ []
CallNotes call (Bad Invalid) noted = ⊥
CallNotes call (Bad Space) noted = noted ≡ []
CallNotes call (Bad Shutdown) noted = noted ≡ []

-- a change; with FUA it is the change and, where that was made, a flush, whose refusal is the answer
abbrev pub ChangeNotes : Act → Bool → Answer → List Act → Type 0
ChangeNotes change false answer noted = CallNotes change answer noted
ChangeNotes change true (Good bytes) noted = noted ≡ change ∷ act.Flush ∷ []
ChangeNotes change true (Bad errno) noted =
    CallNotes change (Bad errno) noted ⊎ ((others : List Act) × (noted ≡ change ∷ others) × CallNotes act.Flush (Bad errno) others)

-- a request, with its data
abbrev pub JobNotes : Job → List ℕ → Answer → List Act → Type 0
JobNotes (Read at count) items answer noted = ReadNotes at count answer noted
JobNotes (Write at count fua) items answer noted = ChangeNotes (act.Write at items) fua answer noted
JobNotes (Zero at count fua) items answer noted = ChangeNotes (act.Zero at count) fua answer noted
JobNotes Flush items answer noted = CallNotes act.Flush answer noted

-- ---- what is so where a request is answered

-- a beginning of what the port has seen by now. It begins with what the port had seen before, and behind that the
-- port's own acts in it are just these
pub record IsUpTo (old new : PortState) (acts : List Act) (front : History) : Type 0 where
  pub more : History
  pub goes_on : front ≡ old.seen ++ more
  pub within : StartsWith new.seen front
  pub own : calls_by old.number more ≡ map (entry old.number) acts

-- the data of a READ are the image's at the place of its entry, behind the acts of the requests before it. All others
-- have no data
abbrev pub IsReply : PortState → PortState → List Act → Job → List ℕ → Type 0
IsReply old new before (Read at count) bytes =
    (front : History) × IsUpTo old new before front
    × StartsWith new.seen (front ++ entry old.number (act.Read at count) ∷ []) × (IsTrue old.tells → bytes ≡ reply old.base front at count)
IsReply old new before (Write at count fua) bytes = bytes ≡ []
IsReply old new before (Zero at count fua) bytes = bytes ≡ []
IsReply old new before Flush bytes = bytes ≡ []

-- the request is a change, for which a top that was filled by this history has no room
abbrev pub IsTooMuch : Base → History → Job → List ℕ → Type 0
IsTooMuch base seen (Read at count) items = ⊥
IsTooMuch base seen (Write at count fua) items = IsOverFor base seen (act.Write at items)
IsTooMuch base seen (Zero at count fua) items = IsOverFor base seen (act.Zero at count)
IsTooMuch base seen Flush items = ⊥

-- where the request is a change, the top had room for it at a place behind the acts of the requests before it
abbrev pub HadRoom : PortState → PortState → List Act → Job → List ℕ → Type 0
HadRoom old new before (Read at count) items = ⊤
HadRoom old new before (Write at count fua) items = (front : History) × IsUpTo old new before front × HasRoomFor old.base front (act.Write at items)
HadRoom old new before (Zero at count fua) items = (front : History) × IsUpTo old new before front × HasRoomFor old.base front (act.Zero at count)
HadRoom old new before Flush items = ⊤

-- want of memory is free, but not where only the flush could want it, by a port whose flush takes none
abbrev pub MayWant : Bool → Job → List Act → Type 0
MayWant takes (Read at count) noted = ⊤
MayWant takes (Write at count fua) noted = (noted ≡ []) ⊎ (takes ≡ true)
MayWant takes (Zero at count fua) noted = (noted ≡ []) ⊎ (takes ≡ true)
MayWant takes Flush noted = takes ≡ true

-- when an error may come, behind the acts of the requests before. Those by faults are counted below, and a change that
-- failed had room
abbrev pub Cause : Bool → PortState → PortState → List Act → Job → List ℕ → List Act → Errno → Type 0
Cause takes old new before job items noted Permission = ⊥
Cause takes old new before job items noted InputOutput = HadRoom old new before job items
Cause takes old new before job items noted Memory = MayWant takes job noted
Cause takes old new before job items noted Invalid = ⊥
Cause takes old new before job items noted Space = (front : History) × IsUpTo old new before front × IsTooMuch old.base front job items
Cause takes old new before job items noted Shutdown = IsWorn new

abbrev pub Holds : Bool → PortState → PortState → List Act → Job → List ℕ → List Act → Answer → Type 0
Holds takes old new before job items noted (Good bytes) = IsReply old new before job bytes × HadRoom old new before job items
Holds takes old new before job items noted (Bad errno) = Cause takes old new before job items noted errno

-- where the history came to be full before a request, the answer is ESHUTDOWN or ENOMEM. Any other answer comes where the
-- port had seen less than a full history when the request was put to it
abbrev pub IsInTime : PortState → PortState → List Act → Answer → Type 0
IsInTime old new before answer = old.first + length old.seen ≤ 2 ^ 62
    → (answer ≡ Bad Memory) ⊎ ((answer ≡ Bad Shutdown) ⊎ ((front : History) × IsUpTo old new before front × (old.first + length front < 2 ^ 62)))

-- each request has one answer and noted by it, in order, and from the first acts to the last ones nothing else was noted
abbrev pub AreAnswered : Bool → PortState → PortState → List Act → List Passed → List Answer → List Act → Type 0
AreAnswered takes old new before [] [] acts = acts ≡ before
AreAnswered takes old new before [] (answer ∷ answers) acts = ⊥
AreAnswered takes old new before (p ∷ passed) [] acts = ⊥
AreAnswered takes old new before (p ∷ passed) (answer ∷ answers) acts =
    (noted : List Act) × JobNotes p.job p.bytes answer noted × Holds takes old new before p.job p.bytes noted answer × IsInTime old new before answer
    × AreAnswered takes old new (before ++ noted) passed answers acts

-- the answer is EIO
abbrev pub is_io : Answer → Bool
is_io (Good bytes) = false
is_io (Bad errno) = errno_number errno == 5

-- the port is the same one and saw more, in which its own acts are those of the requests. It met a fault for each EIO, and
-- none where there is no EIO
pub record FitsHistory (takes : Bool) (old : PortState) (passed : List Passed) (answers : List Answer) (new : PortState) : Type 0 where
  pub base : new.base ≡ old.base
  pub first : new.first ≡ old.first
  pub number : new.number ≡ old.number
  pub more : History
  pub seen : new.seen ≡ old.seen ++ more
  pub acts : List Act
  pub own : calls_by old.number more ≡ map (entry old.number) acts
  pub answered : AreAnswered takes old new [] passed answers acts
  pub faults : old.faults + count_by is_io answers ≤ new.faults
  pub spared : count_by is_io answers ≡ 0 → new.faults ≡ old.faults
