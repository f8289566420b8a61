-- What a connection over a shared image is sent, said of the one history of the image.
use Rattle.std.specs.Prelude.{◌≡◌, ℕ, IsTrue, false, List, [], ◌∷◌, ◌++◌, take, drop, map, ⊤}
use Rattle.std.specs.Io.KnownBytes.{Consumes}
use Rattle.flat_image.specs.declared.act.Act.{Act}
use Rattle.flat_image.specs.declared.act.Act.TheVariants as act
use Rattle.flat_image.specs.Sheets.{bytes_of}
use Rattle.flat_image.specs.Entries.{entry, calls_by, StartsWith}
use Rattle.flat_image.specs.History.{History, after}
use Rattle.flat_image.specs.Ports.{PortState}
use Rattle.nbd_session.specs.declared.export.Export.{Export}
use Rattle.nbd_session.specs.declared.job.Job.{Job}
use Rattle.nbd_session.specs.declared.job.Job.TheVariants.{Read, Write, Zero, Flush}
use Rattle.nbd_session.specs.declared.served.Served.{Served}
use Rattle.nbd_session.specs.declared.served.Served.TheVariants.{Memory}
use Rattle.nbd_session.specs.Replies.{Answer, Good, Bad}
use Rattle.nbd_session.specs.Talks.{Passed, talk}
use Rattle.nbd_session.specs.Sessions.{Ends, TellsFaults, Why}
use Rattle.nbd_session.specs.SessionLaws.{AreAnswered}

-- The bytes of a read are those of the flat image, its layers painted bottom up and then each write and zero before it, at
-- the place in the history where the read's entry stands. What was seen before the connection stands before that place.
pub record IsReadAt (port : PortState) (history : History) (at count : ℕ) (bytes : List ℕ) : Type 0 where
  pub before : History
  pub place : StartsWith history (before ++ entry port.number (act.Read at count) ∷ [])
  pub behind : StartsWith before port.seen
  pub flat : IsTrue port.tells → bytes ≡ bytes_of (take count (drop at (after port.base before)))

-- a request that is answered: where it is a READ without an error
abbrev pub IsReadWell : PortState → History → Job → Answer → Type 0
IsReadWell port history (Read at count) (Good bytes) = IsReadAt port history at count bytes
IsReadWell port history (Read at count) (Bad errno) = ⊤
IsReadWell port history (Write at count fua) answer = ⊤
IsReadWell port history (Zero at count fua) answer = ⊤
IsReadWell port history Flush answer = ⊤

-- each READ that is answered without an error
abbrev pub AreReadWell : PortState → History → List Passed → List Answer → Type 0
AreReadWell port history [] answers = ⊤
AreReadWell port history (p ∷ passed) [] = ⊤
AreReadWell port history (p ∷ passed) (answer ∷ answers) = IsReadWell port history p.job answer × AreReadWell port history passed answers

-- A connection, in a history that begins with all that its port saw by its end.
pub record IsServedIn (export : Export) (old new : Ends) (end : Served) (history : History) : Type 0 where
  -- the bytes that it sent, and the errors and data in the replies
  pub read : List ℕ
  pub answers : List Answer
  pub taken : Consumes old.left new.left read
  -- the bytes that it is sent are the NBD replies to the bytes that it sent
  pub replies : Why old new (talk export old.port.base.sectors read answers) end
  -- no fault of its source or its sink was passed over
  pub faults : TellsFaults old new end
  -- the history begins with all that the connection had seen
  pub begins : StartsWith history old.port.seen
  -- and has each of its calls once: its own entries, behind what it had seen, are those that its requests noted, in order
  pub acts : List Act
  pub own : calls_by old.port.number new.port.seen ≡ calls_by old.port.number old.port.seen ++ map (entry old.port.number) acts
  pub answered : AreAnswered false old.port new.port [] (talk export old.port.base.sectors read answers).passed answers acts
  -- each successful read gives the flat image at its place in the history
  pub reads : AreReadWell old.port history (talk export old.port.base.sectors read answers).passed answers

-- each connection that was served, but for want of memory before anything was read, written or noted
abbrev pub Headline : Export → Ends → Ends → Served → History → Type 0
Headline export old new end history = ¬ (end ≡ Memory) → StartsWith history new.port.seen → IsServedIn export old new end history
