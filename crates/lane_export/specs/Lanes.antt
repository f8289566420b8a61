-- What lanes do in threads, and what it comes to.
use Rattle.flat_image.specs.declared.act.Act.TheVariants.{Flush, Fault}
use Rattle.flat_image.specs.declared.act.Asked.TheVariants.{Nothing, Uuid, Sectors}
use Rattle.flat_image.specs.declared.base.Base.{Base}
use Rattle.flat_image.specs.declared.port_fault.PortFault.{PortFault}
use Rattle.flat_image.specs.declared.port_fault.PortFault.TheVariants as fault
use Rattle.image_core.specs.Seen.{Seen, StandsFor}
use Rattle.lane_export.specs.declared.export_end.ExportEnd.{ExportEnd}
use Rattle.lane_export.specs.declared.export_end.ExportEnd.TheVariants as export_end
use Rattle.std.specs.Prelude.{◌||◌, ◌&&◌, is_some, true, ◌≡◌, ◌⊎◌, ℕ, ◌+◌, ◌^◌, ◌<◌, Bool, false, List, [], ◌∷◌, ◌++◌, length, map, slice_index_or, Option, Some, None, All, Result, Ok, Err}
use Rattle.atomic_table.specs.Seated.{TableId}
use Rattle.flat_image.specs.declared.act.Act.{Act}
use Rattle.flat_image.specs.Entries.{entry, calls_by, StartsWith}
use Rattle.flat_image.specs.History.{History, now, fault_count}
use Rattle.flat_image.specs.Left.{Blamed}
use Rattle.flat_image.specs.Ports.{PortState}
use Rattle.turn_lock.specs.Locks.{Lock, Place, place}
use Rattle.nbd_session.specs.declared.export.Export.{Export}
use Rattle.nbd_session.specs.declared.served.Served.{Served}
use Rattle.shared_image.specs.Turns.{seat_port}
use Rattle.image_read.specs.Reading.{IsSeatOf}
use Rattle.lane_serve.specs.declared.lane.LaneEnd.{LaneEnd}
use Rattle.lane_serve.specs.declared.lane.LaneEnd.TheVariants as end_is
use Rattle.lane_serve.specs.Listeners.{Listening}
use Rattle.block_disk.specs.declared.disk.Disk as disks
use Rattle.layer_shelf.specs.declared.shelves.Shelf as shelves
use Rattle.byte_ports.specs.declared.ports.Source as sources
use Rattle.byte_ports.specs.declared.ports.Sink as sinks
use Rattle.lane_serve.specs.Lanes.{Ways, Runs}
use Rattle.image_commands.specs.Images.{LeavesOf, Holds}
use Rattle.image_commands.specs.ImageSteps.{port_of}
use Rattle.control_session.specs.declared.control_end.ControlEnd.{ControlEnd}
use Rattle.control_session.specs.Controls.{control}
use Rattle.control_session.specs.Sessions.{Ends, ends, Serves}

-- what the sources and the sinks of a listener tell, over a port whose flush takes no memory
abbrev pub ways_of : {A B : Type 0} → sources.Ghosts A → sinks.Ghosts B → Export → Ways A B
ways_of a b export = record { left = a.left; reads = a.faults; written = b.written; writes = b.faults; takes = false; export = export }

-- a lane at one moment: its port, what its listener tells, and that one's count of faults
pub record Member (A B : Type 0) : Type 0 where
  pub port : PortState
  pub told : Option (Listening A B Served)
  pub faults : ℕ

abbrev pub member : {A B L : Type 0} → (L → Option (Listening A B Served)) → (L → ℕ) → PortState → L → Member A B
member told faults port listener = record { port = port; told = told listener; faults = faults listener }

-- what a lane did
abbrev pub LaneRan : {A B : Type 0} → Ways A B → Member A B → Member A B → ℕ → LaneEnd → Type 0
LaneRan w old new connections end = Runs w old.told old.faults old.port new.told new.faults new.port connections end

-- a lane whose listener failed, and some lane of these
abbrev pub is_failed : LaneEnd → Bool
is_failed end_is.NoMore = false
is_failed end_is.Enough = false
is_failed end_is.Failed = true

abbrev pub any_failed : List LaneEnd → Bool
any_failed [] = false
any_failed (end ∷ ends) = is_failed end || any_failed ends

-- the port of a lane with that number, before it did anything
abbrev pub first_port : Bool → Lock Base → ℕ → ℕ → PortState
first_port tells lock number shelf = seat_port tells lock (place lock.id number [] false) shelf

-- seats of a lock, by number from 0 on, that have seen nothing
abbrev pub AreFirst : TableId → List (Place Act) → Type 0
AreFirst lock seats = (k : ℕ) (d : Place Act) → k < length seats → slice_index_or seats k d ≡ place lock k [] false

-- each lane has the port of the pair at its place, by number, and its listener
abbrev pub AreDealt : {P X L : Type 0} → (X → PortState) → (X → L) → (ℕ → P → PortState) → (P → L) → List P → List X → Type 0
AreDealt {P} {X} port listener first its pairs lanes =
    (k : ℕ) (e : P) (d : X) → k < length pairs → (port (slice_index_or lanes k d) ≡ first k (slice_index_or pairs k e)) × (listener (slice_index_or lanes k d) ≡ its (slice_index_or pairs k e))

-- each seat is that of the lane's port at its place, beside the shelf of the pair there, and all of it was seen
pub record AreGathered {P X : Type 0} (port : X → PortState) (shelf : P → ℕ) (seen : History) (lanes : List X) (seats : List (Place Act)) (pairs : List P) : Type 0 where
  pub count : length seats ≡ length lanes
  pub each : (k : ℕ) (d : X) (e : Place Act) (f : P) → k < length lanes → IsSeatOf (port (slice_index_or lanes k d)) (slice_index_or seats k e) (shelf (slice_index_or pairs k f))
  pub met : All (λ seat. StartsWith seen seat.seen) seats

-- A lane is done: it ran from this port and this listener, whose connections and faults are these now, and this seat is
-- that of its port, beside its shelf, which has counted so many faults by now.
pub record LaneDone {A B : Type 0} (w : Ways A B) (old : Member A B) (told : Option (Listening A B Served)) (faults : ℕ) (shelf : ℕ) (seat : Place Act) (connections : ℕ) (end : LaneEnd) : Type 0 where
  pub port : PortState
  pub ran : LaneRan w old (record { port = port; told = told; faults = faults }) connections end
  pub seat_is : IsSeatOf port seat shelf

-- And what it comes to once the lock is closed over this history: the lane saw a beginning of it, and noted all entries of
-- its number there. Its count of faults is that of its own Fault entries, and what its shelf has counted: at the end, as it
-- was at the beginning.
pub record LaneIn {A B : Type 0} (w : Ways A B) (history : History) (old : Member A B) (told : Option (Listening A B Served)) (faults : ℕ) (shelf : ℕ) (connections : ℕ) (end : LaneEnd) : Type 0 where
  pub port : PortState
  pub ran : LaneRan w old (record { port = port; told = told; faults = faults }) connections end
  pub begun : StartsWith history port.seen
  pub own : calls_by old.port.number history ≡ calls_by old.port.number port.seen
  pub counted : port.faults ≡ fault_count (calls_by old.port.number port.seen) + shelf

-- ---- the control

-- the control's stream at one moment: what its source has left and what its sink got, where they tell them, and their counts
-- of faults
pub record Stream : Type 0 where
  pub left : Option (List ℕ)
  pub reads : ℕ
  pub written : Option (List ℕ)
  pub writes : ℕ

-- the stream of a source and a sink
abbrev pub stream_of : {A B : Type 0} → sources.Ghosts A → sinks.Ghosts B → A → B → Stream
stream_of a b source sink = record { left = a.left source; reads = a.faults source; written = b.written sink; writes = b.faults sink }

-- the control at one moment: whether its shelf and the disk tell, what that shelf has counted, and its stream
pub record ControlAt : Type 0 where
  pub tells : Bool
  pub shelf : ℕ
  pub stream : Stream

-- the control of a shelf and a stream, beside a disk
abbrev pub control_at : {D S : Type 0} → disks.Ghosts D → shelves.Ghosts S → S → Stream → ControlAt
control_at d s shelf stream = record { tells = d.tells && is_some (s.files shelf); shelf = s.faults shelf; stream = stream }

abbrev pub ends_at : Stream → PortState → Ends
ends_at stream port = ends stream.left stream.reads stream.written stream.writes port

-- The control is done: its stream was served from this port on, beside its shelf, and its seat has seen what that one saw,
-- and noted nothing else.
pub record ControlDone (old : Ends) (new : ControlAt) (seat : Place Act) (end : ControlEnd) : Type 0 where
  pub port : PortState
  pub serves : Serves control old (ends_at new.stream port) end
  pub seen : StartsWith seat.seen port.seen
  pub own : calls_by old.port.number seat.seen ≡ calls_by old.port.number port.seen
  pub counted : port.faults ≡ fault_count (calls_by old.port.number port.seen) + new.shelf

-- what the control's last flush noted
abbrev pub IsLast : List Act → Type 0
IsLast acts = (acts ≡ Flush ∷ []) ⊎ ((acts ≡ Fault Nothing ∷ []) ⊎ (acts ≡ []))

-- And what it comes to once the lock is closed over this history: its port saw a beginning of it, and all entries of its
-- number are those of its lines and what the last flush noted. The count of faults of its lines is that of their own Fault
-- entries, and what its shelf has counted.
pub record ControlIn (history : History) (old : Ends) (new : ControlAt) (end : ControlEnd) : Type 0 where
  pub port : PortState
  pub serves : Serves control old (ends_at new.stream port) end
  pub begun : StartsWith history port.seen
  pub last : List Act
  pub last_is : IsLast last
  pub own : calls_by old.port.number history ≡ calls_by old.port.number port.seen ++ map (entry old.port.number) last
  pub counted : port.faults ≡ fault_count (calls_by old.port.number port.seen) + new.shelf

-- how an export ends, by whether a listener has failed and by the last flush
abbrev pub end_by : {T : Type 0} → Bool → Result T PortFault → ExportEnd
end_by true last = export_end.ListenerFailed
end_by false (Ok done) = export_end.Flushed
end_by false (Err fault.Worn) = export_end.Worn
end_by false (Err (fault.Full rows sectors)) = export_end.FlushFailed
end_by false (Err fault.Memory) = export_end.FlushFailed
end_by false (Err fault.Failed) = export_end.FlushFailed

-- the last entry is that act of the caller with that number
abbrev pub EndsWith : History → ℕ → Act → Type 0
EndsWith history number act = (before : History) × (history ≡ before ++ entry number act ∷ [])

-- the caller with that number asked for the last flush: it was made, it failed, or the history is full
abbrev pub IsFlushAsked : History → ℕ → Type 0
IsFlushAsked history number = EndsWith history number Flush ⊎ (EndsWith history number (Fault Nothing) ⊎ (length history ≡ 2 ^ 62))

-- why an export ended so: the control flushed last; a listener failed, where the control asked for the last flush all the same;
-- the control's last flush failed; or the history is full. The fault of a listener comes first
abbrev pub WhyEnded : List LaneEnd → History → ℕ → ExportEnd → Type 0
WhyEnded ends history number export_end.Flushed = (any_failed ends ≡ false) × EndsWith history number Flush
WhyEnded ends history number export_end.ListenerFailed = (any_failed ends ≡ true) × IsFlushAsked history number
WhyEnded ends history number export_end.FlushFailed = (any_failed ends ≡ false) × EndsWith history number (Fault Nothing)
WhyEnded ends history number export_end.Worn = (any_failed ends ≡ false) × (length history ≡ 2 ^ 62)
WhyEnded ends history number export_end.Memory = ⊥

-- no freeze, seal or grow failed since the last one that was made
abbrev pub IsUnblamed : History → Type 0
IsUnblamed history = ((uuid : List ℕ) → Blamed history (Uuid uuid) → ⊥) × ((sectors : ℕ) → Blamed history (Sectors sectors) → ⊥)

-- The lanes were served. There is one history, for which the image stands over the base. The lanes' numbers are those of
-- their places, the control's is their number, and no others have entries.
pub record HasServed {P A B : Type 0} (w : Ways A B) (base : Base) (tells : P → Bool) (shelf : P → ℕ) (told : P → Option (Listening A B Served)) (faults : P → ℕ) (old new : List P) (connections : ℕ) (start later : ControlAt) (control_end : Option ControlEnd) (image : Seen) (end : ExportEnd) : Type 0 where
  pub lock : Lock Base
  pub base_is : lock.base ≡ base
  pub first_is : lock.first ≡ 0
  pub history : History
  pub stands : StandsFor image base history
  pub ends : List LaneEnd
  pub many : length ends ≡ length old
  pub lanes : (k : ℕ) (e f : P) (d : LaneEnd) → k < length old → LaneIn w history
      (record { port = first_port (tells (slice_index_or old k e)) lock k (shelf (slice_index_or old k e)); told = told (slice_index_or old k e); faults = faults (slice_index_or old k e) })
      (told (slice_index_or new k f)) (faults (slice_index_or new k f)) (shelf (slice_index_or new k f)) connections (slice_index_or ends k d)
  pub others : (k : ℕ) → length old < k → calls_by k history ≡ []
  pub control_ended : ControlEnd
  pub told_end : control_end ≡ Some control_ended
  pub control_is : ControlIn history (ends_at start.stream (first_port start.tells lock (length old) start.shelf)) later control_ended
  pub why : WhyEnded ends history (length old) end
  pub left : LeavesOf (port_of image) base history
  pub holds : end ≡ export_end.Flushed → IsUnblamed history → Holds (port_of image) (now base history)

-- an export of an image. Where memory was wanting, nothing was served and nothing noted, and all lanes and the control are as
-- they were
abbrev pub Exports : {P A B : Type 0} → Ways A B → Base → (P → Bool) → (P → ℕ) → (P → Option (Listening A B Served)) → (P → ℕ) → List P → List P → ℕ
    → ControlAt → ControlAt → Option ControlEnd → Seen → ExportEnd → Type 0
Exports w base tells shelf told faults old new connections start later ended image export_end.Flushed =
    HasServed w base tells shelf told faults old new connections start later ended image export_end.Flushed
Exports w base tells shelf told faults old new connections start later ended image export_end.ListenerFailed =
    HasServed w base tells shelf told faults old new connections start later ended image export_end.ListenerFailed
Exports w base tells shelf told faults old new connections start later ended image export_end.FlushFailed =
    HasServed w base tells shelf told faults old new connections start later ended image export_end.FlushFailed
Exports w base tells shelf told faults old new connections start later ended image export_end.Worn =
    HasServed w base tells shelf told faults old new connections start later ended image export_end.Worn
Exports w base tells shelf told faults old new connections start later ended image export_end.Memory =
    StandsFor image base [] × (new ≡ old) × (later ≡ start) × (ended ≡ None)

-- the same of lanes that are pairs of a shelf and a listener, over an image on a disk
abbrev pub ExportsLanes : {D S L A B : Type 0} → Ways A B → disks.Ghosts D → shelves.Ghosts S → (L → Option (Listening A B Served)) → (L → ℕ) → Base → List (S × L) → List (S × L) → ℕ
    → ControlAt → ControlAt → Option ControlEnd → Seen → ExportEnd → Type 0
ExportsLanes w d s told faults base old new connections start later ended image end =
    Exports w base (λ pair. d.tells && is_some (s.files pair.0)) (λ pair. s.faults pair.0) (λ pair. told pair.1) (λ pair. faults pair.1) old new connections start later ended image end
