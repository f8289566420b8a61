-- What is sent to control lines, what is asked of the port, and how the control ends, as a function of the bytes that were
-- sent and of the port's answers.
use Rattle.std.specs.Prelude.{ℕ, zero, suc, ◌^◌, Bool, true, false, List, [], ◌∷◌, ◌++◌, length, drop, codes, Option, Some, None, nat_lt}
use Rattle.control_session.specs.declared.answer.CommitAnswer.{CommitAnswer}
use Rattle.control_session.specs.declared.answer.WarmAnswer.{WarmAnswer}
use Rattle.control_session.specs.declared.answer.StatusAnswer.{StatusAnswer}
use Rattle.control_session.specs.declared.control_end.ControlEnd.{ControlEnd}
use Rattle.control_session.specs.declared.control_end.ControlEnd.TheVariants as ends
use Rattle.control_session.specs.declared.line.Call.{Call}
use Rattle.control_session.specs.declared.line.Call.TheVariants.{Commit, Warm, Status}
use Rattle.control_session.specs.declared.line.Line.{Line}
use Rattle.control_session.specs.declared.line.Line.TheVariants.{Asks, NoLayer, Quit, Other}
use Rattle.control_session.specs.Lines.{cut_line, line_said}
use Rattle.control_session.specs.Replies.{commit_reply, warm_reply, status_reply}

-- what the port answers to a call
pub data Answer : Type 0 where
  Committed : CommitAnswer → Answer
  Warmed : WarmAnswer → Answer
  Told : StatusAnswer → Answer

-- the line that tells an answer. To an answer of another call there is none
abbrev pub reply_of : Call → Answer → List ℕ
reply_of (Commit uuid) (Committed answer) = commit_reply uuid answer
reply_of (Commit uuid) (Warmed answer) = []
reply_of (Commit uuid) (Told answer) = []
reply_of (Warm layer) (Committed answer) = []
reply_of (Warm layer) (Warmed answer) = warm_reply layer answer
reply_of (Warm layer) (Told answer) = []
reply_of Status (Committed answer) = []
reply_of Status (Warmed answer) = []
reply_of Status (Told answer) = status_reply answer

-- a control: the pieces that are sent, one for each line, the calls that are asked of the port in order, and the end;
-- whether the bytes ended before a line that ends the control; whether something was read behind the line that the last
-- piece answers; and the bytes behind the line that ends the control
pub record Talk : Type 0 where
  pub pieces : List (List ℕ)
  pub asked : List Call
  pub end : ControlEnd
  pub hungry : Bool
  pub begun : Bool
  pub unread : List ℕ

-- a part of a control, from whether the input ends behind the bytes that are still to be read, these bytes, and the
-- answers that are still to be given
abbrev pub Rest : Type 0
Rest = Bool → List ℕ → List Answer → Talk

-- the bytes ended, between two lines or inside one
abbrev pub stop : Bool → Talk
stop begun = record { pieces = []; asked = []; end = ends.Ended; hungry = true; begun = begun; unread = [] }

-- the control ended before these bytes
abbrev pub stop_at : ControlEnd → Bool → List ℕ → Talk
stop_at end begun unread = record { pieces = []; asked = []; end = end; hungry = false; begun = begun; unread = unread }

-- a control that begins with these
abbrev pub front : List (List ℕ) → List Call → Talk → Talk
front pieces asked t = record { pieces = pieces ++ t.pieces; asked = asked ++ t.asked; end = t.end; hungry = t.hungry; begun = t.begun; unread = t.unread }

-- the port is asked, and its answer is told. A call that has no answer is asked all the same
abbrev pub asks : Rest → Call → Rest
asks go call closed bytes [] = record { pieces = []; asked = call ∷ []; end = ends.Ended; hungry = true; begun = true; unread = [] }
asks go call closed bytes (answer ∷ answers) = front (reply_of call answer ∷ []) (call ∷ []) (go closed bytes answers)

-- what comes behind a line
abbrev pub past : Rest → Line → Rest
past go (Asks call) = go
past go NoLayer = go
past go Quit = λ closed bytes answers. stop_at ends.Quit false bytes
past go Other = go

-- each line has one answer
abbrev pub answered : Rest → Line → Rest
answered go (Asks call) closed bytes answers = asks (past go (Asks call)) call closed bytes answers
answered go NoLayer closed bytes answers = front (codes "refused no layer\n" ∷ []) [] (past go NoLayer closed bytes answers)
answered go Quit closed bytes answers = front (codes "bye\n" ∷ []) [] (past go Quit closed bytes answers)
answered go Other closed bytes answers = front (codes "refused line\n" ∷ []) [] (past go Other closed bytes answers)

-- behind the last line of an input that ended
abbrev pub at_end : Rest
at_end closed bytes answers = stop false

-- a line may have 256 bytes
abbrev pub short_line : Rest → List ℕ → List ℕ → Rest
short_line go bytes line closed rest answers = elim (nat_lt 256 (length line)) [
  | true ↦ stop_at ends.LongLine true (drop 257 bytes)
  | false ↦ answered go (line_said line) closed rest answers
]

-- where there is no LF, the bytes are a line if the input ends behind them, and else a part of one
abbrev pub last_line : List ℕ → Bool → List Answer → Talk
last_line bytes true answers = short_line at_end bytes bytes true [] answers
last_line bytes false answers = elim (nat_lt 256 (length bytes)) [ true ↦ stop_at ends.LongLine true (drop 257 bytes) | false ↦ stop true ]

abbrev pub cut_at : Rest → List ℕ → Option (List ℕ × List ℕ) → Bool → List Answer → Talk
cut_at go bytes None closed answers = last_line bytes closed answers
cut_at go bytes (Some (line, rest)) closed answers = short_line go bytes line closed rest answers

-- one line, or the end of the bytes. A line without an LF at the end of the input is a line if it has bytes
unfoldable pub one_line : Rest → Rest
one_line go closed [] answers = stop false
one_line go closed (byte ∷ bytes) answers = cut_at go (byte ∷ bytes) (cut_line (byte ∷ bytes)) closed answers

-- at most so many lines
unfoldable pub lines : ℕ → Rest
lines zero closed bytes answers = stop_at ends.TooManyLines false bytes
lines (suc left) closed bytes answers = one_line (lines left) closed bytes answers

-- a whole control, of at most 2^62 lines
abbrev pub control : Rest
control = lines (2 ^ 62)
