-- What a connection does to its source, its sink and its port.
use Rattle.std.specs.List.{concat}
use Rattle.std.specs.Prelude.{◌≡◌, ℕ, ◌<◌, ◌⊎◌, Bool, true, false, List, [], ◌∷◌, ◌++◌, length, Option, Result, MatchResult}
use Rattle.std.specs.Io.KnownBytes.{Appends, Consumes, IsAtEnd}
use Rattle.sector_extent.specs.Causes.{Charges}
use Rattle.byte_ports.specs.Ports.{AppendsFront}
use Rattle.flat_image.specs.Ports.{PortState}
use Rattle.nbd_session.specs.declared.served.Served.{Served}
use Rattle.nbd_session.specs.declared.served.Served.TheVariants.{Done, Aborted, BadHello, BadMagic, Truncated, Oversized, TooManyOptions, UnknownExport, TooManyRequests, SourceFault, SinkFault, Memory}
use Rattle.nbd_session.specs.Replies.{Answer}
use Rattle.nbd_session.specs.Talks.{Passed, Talk, Rest, front}
use Rattle.nbd_session.specs.Fits.{Fits}

-- the three that a connection stands between: the bytes that the source has left and those that the sink has got, where
-- they tell them, with their counts of faults, and the port
pub record Ends : Type 0 where
  pub left : Option (List ℕ)
  pub read_faults : ℕ
  pub written : Option (List ℕ)
  pub write_faults : ℕ
  pub port : PortState

abbrev pub ends : Option (List ℕ) → ℕ → Option (List ℕ) → ℕ → PortState → Ends
ends left read_faults written write_faults port =
    record { left = left; read_faults = read_faults; written = written; write_faults = write_faults; port = port }

-- all of these pieces were sent but the last, and a front of the last
pub record SendsButLast (old new : Option (List ℕ)) (pieces : List (List ℕ)) : Type 0 where
  pub before : List (List ℕ)
  pub last : List ℕ
  pub are : pieces ≡ before ++ last ∷ []
  pub mid : Option (List ℕ)
  pub sent : Appends old mid (concat before)
  pub part : AppendsFront mid new last

-- no fault was passed over: the source's count of faults rose just where a fault of the source ended the connection, and the
-- sink's just where one of the sink did
pub record TellsFaults (old new : Ends) (end : Served) : Type 0 where
  pub source : Charges (λ e. e.read_faults) old new (end ≡ SourceFault)
  pub sink : Charges (λ e. e.write_faults) old new (end ≡ SinkFault)

-- the talk ended so, and nothing was read behind the word that ended it. A fault of the source stands where more bytes
-- were wanted. A fault of the sink stands in the last piece: all before it was sent, and nothing was read behind the
-- message that it answers
abbrev pub Ending : Ends → Ends → Talk → Served → Type 0
Ending old new t end = (t.end ≡ end) × Appends old.written new.written (concat t.pieces) × (t.hungry ≡ true → IsAtEnd new.left) × (t.unread ≡ [])

abbrev pub Why : Ends → Ends → Talk → Served → Type 0
Why old new t Done = Ending old new t Done
Why old new t Aborted = Ending old new t Aborted
Why old new t BadHello = Ending old new t BadHello
Why old new t BadMagic = Ending old new t BadMagic
Why old new t Truncated = Ending old new t Truncated
Why old new t (Oversized length) = Ending old new t (Oversized length)
Why old new t TooManyOptions = Ending old new t TooManyOptions
Why old new t UnknownExport = Ending old new t UnknownExport
Why old new t TooManyRequests = Ending old new t TooManyRequests
Why old new t SourceFault = Appends old.written new.written (concat t.pieces) × (t.hungry ≡ true) × (t.unread ≡ [])
Why old new t SinkFault = SendsButLast old.written new.written t.pieces × (t.begun ≡ false) × (t.unread ≡ [])
Why old new t Memory = ⊥

-- the bytes that were read and the port's answers make the talk, and it ended so
pub record Ended (takes : Bool) (talk : Rest) (old new : Ends) (end : Served) : Type 0 where
  pub read : List ℕ
  pub answers : List Answer
  pub taken : Consumes old.left new.left read
  pub fits : Fits takes old.port (talk read answers).passed answers new.port
  pub why : Why old new (talk read answers) end
  pub faults : TellsFaults old new end

-- a connection that was served. Want of memory is answered before anything was read, written or noted
abbrev pub Serves : Bool → Rest → Ends → Ends → Served → Type 0
Serves takes talk old new Done = Ended takes talk old new Done
Serves takes talk old new Aborted = Ended takes talk old new Aborted
Serves takes talk old new BadHello = Ended takes talk old new BadHello
Serves takes talk old new BadMagic = Ended takes talk old new BadMagic
Serves takes talk old new Truncated = Ended takes talk old new Truncated
Serves takes talk old new (Oversized length) = Ended takes talk old new (Oversized length)
Serves takes talk old new TooManyOptions = Ended takes talk old new TooManyOptions
Serves takes talk old new UnknownExport = Ended takes talk old new UnknownExport
Serves takes talk old new TooManyRequests = Ended takes talk old new TooManyRequests
Serves takes talk old new SourceFault = Ended takes talk old new SourceFault
Serves takes talk old new SinkFault = Ended takes talk old new SinkFault
Serves takes talk old new Memory = new ≡ old

-- ---- parts of a connection

-- a part of the talk is behind, with no fault, and what follows is the rest of it
pub record Went (takes : Bool) (talk rest : Rest) (old new : Ends) : Type 0 where
  pub read : List ℕ
  pub pieces : List (List ℕ)
  pub passed : List Passed
  pub answers : List Answer
  pub taken : Consumes old.left new.left read
  pub sent : Appends old.written new.written (concat pieces)
  pub fits : Fits takes old.port passed answers new.port
  pub reads_calm : new.read_faults ≡ old.read_faults
  pub writes_calm : new.write_faults ≡ old.write_faults
  pub goes : (more : List ℕ) (others : List Answer) → talk (read ++ more) (answers ++ others) ≡ front pieces passed (rest more others)

-- the connection goes on, or it ended
abbrev pub GoesOn : {T : Type 0} → Bool → Rest → (T → Rest) → Ends → Ends → Result T Served → Type 0
GoesOn takes talk rest old new result = MatchResult result (λ value. Went takes talk (rest value) old new) (Ended takes talk old new)

-- a rest that sends nothing, puts nothing to the port and reads nothing where there is nothing
abbrev pub IsIdle : Rest → Type 0
IsIdle go = ((go [] []).pieces ≡ []) × ((go [] []).passed ≡ []) × ((go [] []).begun ≡ false) × ((go [] []).unread ≡ [])

-- a part of the talk that begins with this piece
abbrev pub said : List ℕ → Rest → Rest
said bytes rest more answers = front (bytes ∷ []) [] (rest more answers)

-- the bytes ended, or the source failed, before so many were taken
pub record IsCut (old new : Option (List ℕ)) (before now size : ℕ) (end : Served) : Type 0 where
  pub bytes : List ℕ
  pub short : length bytes < size
  pub taken : Consumes old new bytes
  pub cause : ((end ≡ Truncated) × IsAtEnd new × (now ≡ before)) ⊎ ((end ≡ SourceFault) × (before < now))

-- these bytes were sent, or a front of them before the sink failed
abbrev pub Sends : {T : Type 0} → Option (List ℕ) → Option (List ℕ) → ℕ → ℕ → List ℕ → Result T Served → Type 0
Sends old new before now bytes result = MatchResult result
    (λ _. Appends old new bytes × (now ≡ before))
    (λ end. (end ≡ SinkFault) × AppendsFront old new bytes × (before < now))
