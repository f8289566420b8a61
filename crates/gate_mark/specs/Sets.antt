-- Sets in a row, with failures anywhere.
use Rattle.std.specs.Prelude.{◌≡◌, ℕ, ◌+◌, ◌⊎◌, List, [], ◌∷◌, Bool, MatchBool, if◌then◌else◌, map, reverse}
use Rattle.block_disk.specs.Claims.{RunBy}
use Rattle.block_disk.specs.DiskState.{DiskState, Files}
use Rattle.gate_mark.specs.declared.mark.Mark.{Mark}
use Rattle.gate_mark.specs.Mark.{MayHold, MarkShows}

-- a body, and whether it was set; the newest act stands first
abbrev pub Act : Type 0
Act = List ℕ × Bool

-- the body of the last set that succeeded, or one that was attempted since
abbrev pub LastOrSince : Mark → List Act → List ℕ → Type 0
LastOrSince start [] b = MayHold start b
LastOrSince start (act ∷ earlier) b = MatchBool act.1 (b ≡ act.0) ((b ≡ act.0) ⊎ LastOrSince start earlier b)

-- the mark holds, before or during one of the acts, the body of the last set that had succeeded by then, or one
-- attempted since
abbrev pub IsOnTheWay : Mark → List Act → Mark → Type 0
IsOnTheWay start [] mark = (b : List ℕ) → MayHold mark b → MayHold start b
IsOnTheWay start (act ∷ earlier) mark = IsOnTheWay start earlier mark ⊎ ((b : List ℕ) → MayHold mark b → (b ≡ act.0) ⊎ LastOrSince start earlier b)

-- how many acts succeeded
abbrev pub successes : List Act → ℕ
successes [] = 0
successes (act ∷ earlier) = (if act.1 then 1 else 0) + successes earlier

-- the bodies were set in turn, or failed to be. At each moment there is one mark on the way so that a crash leaves what
-- it shows: its body, or its one attempted body.
pub record SetInTurn (file : ℕ) (old new : DiskState) (start end : Mark) (bodies : List (List ℕ)) (acts : List Act) : Type 0 where
  pub in_turn : map (λ act. act.0) acts ≡ reverse bodies
  pub any_moment : RunBy (λ f. f ≡ file) old new (λ (mark : Mark) (files : Files). MarkShows mark (files file) × IsOnTheWay start acts mark)
  pub last : (b : List ℕ) → MayHold end b → LastOrSince start acts b
  pub number : end.sequence ≡ start.sequence + successes acts
  pub same : end.file ≡ file
