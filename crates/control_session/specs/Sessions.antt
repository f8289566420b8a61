-- What a control does to its source, its sink and its port.
use Rattle.std.specs.List.{concat}
use Rattle.std.specs.Prelude.{◌≡◌, ℕ, Bool, true, false, List, [], ◌∷◌, ◌++◌, Option, Result, MatchResult}
use Rattle.std.specs.Io.KnownBytes.{Appends, Consumes, IsAtEnd}
use Rattle.sector_extent.specs.Causes.{Charges}
use Rattle.byte_ports.specs.Ports.{AppendsFront}
use Rattle.flat_image.specs.Ports.{PortState, fault_count}
use Rattle.control_session.specs.declared.answer.CommitAnswer.TheVariants as commit
use Rattle.control_session.specs.declared.answer.WarmAnswer.TheVariants as warm
use Rattle.control_session.specs.declared.control_end.ControlEnd.{ControlEnd}
use Rattle.control_session.specs.declared.control_end.ControlEnd.TheVariants.{Quit, Ended as AtEnd, LongLine, TooManyLines, SourceFault, SinkFault, Memory}
use Rattle.control_session.specs.declared.line.Call.{Call}
use Rattle.control_session.specs.declared.line.Call.TheVariants.{Commit, Warm, Status}
use Rattle.control_session.specs.declared.line.Line.{Line}
use Rattle.control_session.specs.ControlTable.{CommitFits, WarmFits, StatusFits}
use Rattle.control_session.specs.Controls.{Answer, Committed, Warmed, Told, Talk, Rest, front, answered, past}

-- ---- the port

-- what the port noted at one call, and its answer
abbrev pub Does : PortState → PortState → Call → Answer → Type 0
Does old new (Commit uuid) (Committed answer) = CommitFits old new uuid answer × Charges fault_count old new (answer ≡ commit.Failed)
Does old new (Commit uuid) (Warmed answer) = ⊥
Does old new (Commit uuid) (Told answer) = ⊥
Does old new (Warm layer) (Committed answer) = ⊥
Does old new (Warm layer) (Warmed answer) = WarmFits old new layer answer × Charges fault_count old new (answer ≡ warm.Failed)
Does old new (Warm layer) (Told answer) = ⊥
Does old new Status (Committed answer) = ⊥
Does old new Status (Warmed answer) = ⊥
Does old new Status (Told answer) = StatusFits old new answer

-- the calls that were asked have one answer each, and nothing else was asked: between them stand the states of the port,
-- each of which has seen what the one before has
abbrev pub Fits : PortState → List Call → List Answer → PortState → Type 0
Fits old [] [] new = new ≡ old
Fits old [] (answer ∷ answers) new = ⊥
Fits old (call ∷ calls) [] new = ⊥
Fits old (call ∷ calls) (answer ∷ answers) new = (mid : PortState) × Does old mid call answer × Fits mid calls answers new

-- ---- the whole control

-- the three that a control stands between: the bytes that the source has left and those that the sink has got, where
-- they tell them, with their counts of faults, and the port
pub record Ends : Type 0 where
  pub left : Option (List ℕ)
  pub read_faults : ℕ
  pub written : Option (List ℕ)
  pub write_faults : ℕ
  pub port : PortState

abbrev pub ends : Option (List ℕ) → ℕ → Option (List ℕ) → ℕ → PortState → Ends
ends left read_faults written write_faults port =
    record { left = left; read_faults = read_faults; written = written; write_faults = write_faults; port = port }

-- all of these pieces were sent but the last, and a front of the last
pub record SendsButLast (old new : Option (List ℕ)) (pieces : List (List ℕ)) : Type 0 where
  pub before : List (List ℕ)
  pub last : List ℕ
  pub are : pieces ≡ before ++ last ∷ []
  pub mid : Option (List ℕ)
  pub sent : Appends old mid (concat before)
  pub part : AppendsFront mid new last

-- no fault was passed over: the source's count of faults rose just where a fault of the source ended the control, and the
-- sink's just where one of the sink did
pub record TellsFaults (old new : Ends) (end : ControlEnd) : Type 0 where
  pub source : Charges (λ e. e.read_faults) old new (end ≡ SourceFault)
  pub sink : Charges (λ e. e.write_faults) old new (end ≡ SinkFault)

-- the control ended so, and nothing was read behind the line that ended it. A fault of the source stands where more
-- bytes were wanted. A fault of the sink stands in the last piece: all before it was sent, and nothing was read behind
-- the line that it answers
abbrev pub Ending : Ends → Ends → Bool → Talk → ControlEnd → Type 0
Ending old new closed t end =
    (t.end ≡ end) × Appends old.written new.written (concat t.pieces) × (t.hungry ≡ true → closed ≡ true) × (t.unread ≡ [])

abbrev pub Why : Ends → Ends → Bool → Talk → ControlEnd → Type 0
Why old new closed t Quit = Ending old new closed t Quit
Why old new closed t AtEnd = Ending old new closed t AtEnd
Why old new closed t LongLine = Ending old new closed t LongLine
Why old new closed t TooManyLines = Ending old new closed t TooManyLines
Why old new closed t SourceFault = Appends old.written new.written (concat t.pieces) × (t.hungry ≡ true) × (closed ≡ false) × (t.unread ≡ [])
Why old new closed t SinkFault = SendsButLast old.written new.written t.pieces × (t.begun ≡ false) × (t.unread ≡ [])
Why old new closed t Memory = ⊥

-- the bytes that were read, whether the input ended behind them, and the port's answers make the control, and it ended so
pub record Ended (control : Rest) (old new : Ends) (end : ControlEnd) : Type 0 where
  pub read : List ℕ
  pub closed : Bool
  pub answers : List Answer
  pub taken : Consumes old.left new.left read
  pub shut : closed ≡ true → IsAtEnd new.left
  pub fits : Fits old.port (control closed read answers).asked answers new.port
  pub why : Why old new closed (control closed read answers) end
  pub faults : TellsFaults old new end

-- a control that was served. Want of memory is answered before anything was read, written or asked
abbrev pub Serves : Rest → Ends → Ends → ControlEnd → Type 0
Serves control old new Quit = Ended control old new Quit
Serves control old new AtEnd = Ended control old new AtEnd
Serves control old new LongLine = Ended control old new LongLine
Serves control old new TooManyLines = Ended control old new TooManyLines
Serves control old new SourceFault = Ended control old new SourceFault
Serves control old new SinkFault = Ended control old new SinkFault
Serves control old new Memory = new ≡ old

-- ---- parts of a control

-- a part of the control is behind, with no fault, and what follows is the rest of it
pub record Went (control rest : Rest) (old new : Ends) : Type 0 where
  pub read : List ℕ
  pub pieces : List (List ℕ)
  pub asked : List Call
  pub answers : List Answer
  pub taken : Consumes old.left new.left read
  pub sent : Appends old.written new.written (concat pieces)
  pub fits : Fits old.port asked answers new.port
  pub reads_calm : new.read_faults ≡ old.read_faults
  pub writes_calm : new.write_faults ≡ old.write_faults
  pub goes : (closed : Bool) (more : List ℕ) (others : List Answer)
      → control closed (read ++ more) (answers ++ others) ≡ front pieces asked (rest closed more others)

-- the control goes on, or it ended
abbrev pub GoesOn : {T : Type 0} → Rest → Rest → Ends → Ends → Result T ControlEnd → Type 0
GoesOn control rest old new result = MatchResult result (λ _. Went control rest old new) (Ended control old new)

-- a rest that sends nothing, asks nothing and reads nothing where there is nothing
abbrev pub IsIdle : Rest → Type 0
IsIdle go = (closed : Bool) → ((go closed [] []).pieces ≡ []) × ((go closed [] []).asked ≡ []) × ((go closed [] []).begun ≡ false) × ((go closed [] []).unread ≡ [])

-- the line was answered by this text: the port gave the answers that it wants
pub record Answers (line : Line) (old new : PortState) (text : List ℕ) : Type 0 where
  pub asked : List Call
  pub answers : List Answer
  pub fits : Fits old asked answers new
  pub goes : (go : Rest) (closed : Bool) (bytes : List ℕ) (others : List Answer)
      → answered go line closed bytes (answers ++ others) ≡ front (text ∷ []) asked (past go line closed bytes others)
