-- A mark in memory, and what a crash may leave of its file.
use Rattle.std.specs.Prelude.{◌≡◌, ◌≢◌, ℕ, ◌+◌, ◌^◌, ◌<◌, ◌≤◌, ◌⊎◌, List, length, None, Result, Ok, Err}
use Rattle.block_disk.specs.DiskState.{DiskState}
use Rattle.gate_mark.specs.declared.mark.Mark.{Mark}
use Rattle.gate_mark.specs.declared.mark.MarkFault.{MarkFault}
use Rattle.gate_mark.specs.declared.mark.MarkFault.TheVariants.{Failed, NoMark, Worn}
use Rattle.gate_mark.specs.declared.mark.Rest.{Rest}
use Rattle.gate_mark.specs.declared.mark.Rest.TheVariants.{Closed, Stale, Attempted}
use Rattle.gate_mark.specs.declared.mark.Slot.{Slot}
use Rattle.gate_mark.specs.declared.mark.Slot.TheVariants.{First, Second}
use Rattle.gate_mark.specs.MarkFile.{other_of, gate_of, sequence_of, body_of, mark_of, Shows}

abbrev pub file_of : Mark → ℕ
file_of mark = mark.file

abbrev pub sequence_in : Mark → ℕ
sequence_in mark = mark.sequence

abbrev pub body_in : Mark → List ℕ
body_in mark = mark.body

-- by how much the counting sequence must be above that of this slot, so that it counts where both are open
abbrev pub margin : Slot → ℕ
margin First = 1
margin Second = 0

-- What stands in the other slot: its gate is closed, or whatever its gate is, it does not count, or whatever its gate
-- is, it holds the next sequence and a body that was attempted.
abbrev pub RestFits : Rest → Slot → ℕ → List ℕ → Type 0
RestFits Closed slot sequence file = gate_of slot file ≢ 165
RestFits Stale slot sequence file = sequence_of slot file + margin slot ≤ sequence
RestFits (Attempted body) slot sequence file = (sequence_of slot file ≡ sequence + 1) × (body_of slot file ≡ body)

-- the counting slot is open and holds this sequence and this body, and the rest is as said
pub record Fits (slot : Slot) (sequence : ℕ) (body : List ℕ) (rest : Rest) (file : List ℕ) : Type 0 where
  pub long : 1024 ≤ length file
  pub gate : gate_of slot file ≡ 165
  pub number : sequence_of slot file ≡ sequence
  pub content : body_of slot file ≡ body
  pub others : RestFits rest (other_of slot) sequence file

abbrev pub MarkFits : Mark → List ℕ → Type 0
MarkFits mark file = Fits mark.current mark.sequence mark.body mark.rest file

-- whatever a crash now may leave of the mark's file is as the mark says
abbrev pub IsKept : DiskState → Mark → Type 0
IsKept now mark = (file : List ℕ) → now.may_leave mark.file file → MarkFits mark file

-- whatever a crash now may leave, the next sequence and this body stand in the other slot
abbrev pub IsFilled : DiskState → Mark → List ℕ → Type 0
IsFilled now mark body = (file : List ℕ) → now.may_leave mark.file file
    → (sequence_of (other_of mark.current) file ≡ mark.sequence + 1) × (body_of (other_of mark.current) file ≡ body)

-- a body that a crash may leave: the last that was set, or the one that was attempted since
abbrev pub MayHold : Mark → List ℕ → Type 0
MayHold mark body = (body ≡ mark.body) ⊎ (mark.rest ≡ Attempted body)

-- a crash leaves the body of the last set that succeeded, and no other
abbrev pub IsSettled : Mark → Type 0
IsSettled mark = (body : List ℕ) → MayHold mark body → body ≡ mark.body

-- the file holds a body that was attempted, with the sequence
abbrev pub ShowsAttempt : Rest → ℕ → List ℕ → Type 0
ShowsAttempt Closed sequence file = ⊥
ShowsAttempt Stale sequence file = ⊥
ShowsAttempt (Attempted body) sequence file = Shows sequence body file

-- the file holds the mark's sequence and body, or the next sequence and the one attempted body
abbrev pub ShowsEither : Mark → Rest → List ℕ → Type 0
ShowsEither mark rest file = Shows mark.sequence mark.body file ⊎ ShowsAttempt rest (mark.sequence + 1) file

abbrev pub MarkShows : Mark → List ℕ → Type 0
MarkShows mark file = ShowsEither mark mark.rest file

-- in a set of this body the attempted one is as before, or none, or this one
abbrev pub Attempts : List ℕ → Rest → Rest → Type 0
Attempts body old new = (new ≡ old) ⊎ (new ≡ Closed) ⊎ (new ≡ Attempted body)

-- the same mark with the next sequence and this body, and no attempted one
abbrev pub IsSet : Mark → List ℕ → Mark → Type 0
IsSet old body new = new ≡ record old { sequence = old.sequence + 1; body = body; current = other_of old.current; rest = Stale }

-- the same mark, but for what stands in the other slot
abbrev pub IsSameBut : Mark → Mark → Type 0
IsSameBut old new = new ≡ record old { rest = new.rest }

-- what a load answers of a file
abbrev pub LoadGives : List ℕ → Result Mark MarkFault → Type 0
LoadGives file (Ok mark) = Shows mark.sequence mark.body file × (mark.sequence ≤ 2 ^ 61)
LoadGives file (Err NoMark) = mark_of file ≡ None
LoadGives file (Err (Worn sequence)) = ((body : List ℕ) × Shows sequence body file) × (2 ^ 61 < sequence)
LoadGives file (Err Failed) = Unit {0}
