-- A control that was worked out by hand.
use Rattle.std.specs.Prelude.{◌≡◌, ℕ, true, false, List, [], ◌∷◌, ◌++◌, codes, replicate, None}
use Rattle.control_session.specs.declared.answer.CommitAnswer.TheVariants as commit
use Rattle.control_session.specs.declared.answer.WarmAnswer.TheVariants as warm
use Rattle.control_session.specs.declared.answer.StatusAnswer.TheVariants as status
use Rattle.control_session.specs.declared.control_end.ControlEnd.TheVariants.{Quit, Ended, LongLine}
use Rattle.control_session.specs.declared.line.Call.TheVariants.{Commit, Warm, Status}
use Rattle.control_session.specs.declared.line.Line.TheVariants.{Asks, NoLayer, Other}
use Rattle.control_session.specs.Lines.{line_said}
use Rattle.control_session.specs.Controls.{Committed, Warmed, Told, control}

-- the uuid of sixteen bytes 22, and its text
abbrev pub u2 : List ℕ
u2 = replicate 16 0x22

abbrev pub u2_text : List ℕ
u2_text = codes "22222222-2222-2222-2222-222222222222"

-- what these lines say
pub record Words : Type 0 where
  pub commits : line_said (codes "commit " ++ u2_text) ≡ Asks (Commit u2)
  pub short : line_said (codes "commit " ++ replicate 32 50) ≡ Asks (Commit u2)
  pub no_uuid : line_said (codes "commit x") ≡ Other
  pub nil_uuid : line_said (codes "commit " ++ replicate 32 48) ≡ Other
  pub two_spaces : line_said (codes "commit  " ++ u2_text) ≡ Other
  pub warms : line_said (codes "warm 0000000007") ≡ Asks (Warm 7)
  pub past_all : line_said (codes "warm 4294967296") ≡ NoLayer
  pub long_number : line_said (codes "warm 00000000007") ≡ Other
  pub signed : line_said (codes "warm +7") ≡ Other
  pub spaced : line_said (codes "status ") ≡ Other

-- five lines, and what is sent
pub record FiveLines : Type 0 where
  pub talks : control false (codes "status\nwarm 0\nwarm 1\ncommit x\nquit\n")
      (Told (status.Now 4 1 0 None) ∷ Warmed (warm.Done 1) ∷ Warmed warm.NoLayer ∷ [])
      ≡ record {
        pieces = codes "status sectors 4 layers 1 entries 0 pending none\n" ∷ codes "warmed 0 1\n" ∷ codes "refused no layer\n" ∷ codes "refused line\n" ∷ codes "bye\n" ∷ [];
        asked = Status ∷ Warm 0 ∷ Warm 1 ∷ [];
        end = Quit;
        hungry = false;
        begun = false;
        unread = [];
      }

-- a last line without its LF, where the input ended behind it and where it did not; a line of 257 bytes
pub record LineEnds : Type 0 where
  pub last : control true (codes "commit " ++ u2_text) (Committed commit.Done ∷ []) ≡ record
      { pieces = (codes "committed " ++ (u2_text ++ codes "\n")) ∷ []; asked = Commit u2 ∷ []; end = Ended; hungry = true; begun = false; unread = [] }
  pub part : control false (codes "status") [] ≡ record { pieces = []; asked = []; end = Ended; hungry = true; begun = true; unread = [] }
  pub full : control true (replicate 256 120) [] ≡ record { pieces = codes "refused line\n" ∷ []; asked = []; end = Ended; hungry = true; begun = false; unread = [] }
  pub long : control false (replicate 257 120) [] ≡ record { pieces = []; asked = []; end = LongLine; hungry = false; begun = true; unread = [] }
