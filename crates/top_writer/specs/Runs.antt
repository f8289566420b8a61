-- Lists of calls on a top: what it has after them, and what a crash may leave of it then.
use Rattle.std.specs.Prelude.{◌≡◌, ℕ, Bool, true, false, List, [], ◌∷◌, ◌++◌, All, ◌⊎◌, Option}
use Rattle.block_disk.specs.DiskState.{DiskState, Files}
use Rattle.block_disk.specs.Claims.{Run}
use Rattle.flat_image.specs.Left.{Stand}
use Rattle.top_writer.specs.declared.top.Top.{Top}
use Rattle.top_writer.specs.Files.{TopFiles, stored_in, HeadsAsked}
use Rattle.top_writer.specs.Fitting.{TopFits}
use Rattle.top_writer.specs.Showing.{ShowsTop}
use Rattle.top_writer.specs.Stands.{with_write, with_zero, unchanged, as_before, just_this, this_too}
use Rattle.top_writer.specs.View.{epoch_of}

-- what a call did: it wrote bytes from a sector on, made so many sectors from one on zeros, flushed, failed to flush, or
-- was a write or a zero that was refused or failed, or a read
pub data Call : Type 0 where
  Wrote : ℕ → List ℕ → Call
  Zeroed : ℕ → ℕ → Call
  Flushed : Call
  FlushFailed : Call
  Refused : Call

-- what the top becomes by a call
abbrev pub becomes : Call → Stand → Stand
becomes (Wrote at bytes) = with_write at bytes
becomes (Zeroed at count) = with_zero at count
becomes Flushed = unchanged
becomes FlushFailed = unchanged
becomes Refused = unchanged

-- what a crash may leave after a call
abbrev pub leaves : Call → Stand → List Stand → List Stand
leaves (Wrote at bytes) = as_before
leaves (Zeroed at count) = as_before
leaves Flushed = just_this
leaves FlushFailed = this_too
leaves Refused = as_before

-- the top after the calls, of one that is s before them
abbrev pub stand_after : Stand → List Call → Stand
stand_after s [] = s
stand_after s (call ∷ calls) = stand_after (becomes call s) calls

-- what a crash may leave after the calls, of a top that is s before them and of which it may leave those
abbrev pub left_after : Stand → List Stand → List Call → List Stand
left_after s may [] = may
left_after s may (call ∷ calls) = left_after (becomes call s) (leaves call s may) calls

-- the same where a crash may leave just s before them, as after `create` and `load`
abbrev pub left_by : Stand → List Call → List Stand
left_by s calls = left_after s (s ∷ []) calls

-- a flush that answered Ok
abbrev pub flushes : Call → Bool
flushes (Wrote at bytes) = false
flushes (Zeroed at count) = false
flushes Flushed = true
flushes FlushFailed = false
flushes Refused = false

-- a flush, whatever it answered
abbrev pub IsFlush : Call → Type 0
IsFlush call = (call ≡ Flushed) ⊎ (call ≡ FlushFailed)

-- no call of the list is a flush that answered Ok
abbrev pub AreUnflushed : List Call → Type 0
AreUnflushed calls = All (λ call. flushes call ≡ false) calls

-- the front is a beginning of the calls that has all before the last flush that answered Ok
pub record HasFlushed (calls front : List Call) : Type 0 where
  pub rest : List Call
  pub splits : calls ≡ front ++ rest
  pub unflushed : AreUnflushed rest

-- the top after such a front
pub record IsFlushedFront (s : Stand) (calls : List Call) (t : Stand) : Type 0 where
  pub front : List Call
  pub flushed : HasFlushed calls front
  pub is : t ≡ stand_after s front

-- the files of the epoch show the top after such a front
pub record ShowsFront (epoch n : ℕ) (asked : HeadsAsked) (s : Stand) (calls : List Call) (files : Files) : Type 0 where
  pub stand : Stand
  pub front : IsFlushedFront s calls stand
  pub shows : ShowsTop n asked stand (stored_in epoch files)

-- a top is what the calls made of s, and a crash may leave of it what they may leave
abbrev pub FitsAfter : Bool → DiskState → ℕ → HeadsAsked → Top → Stand → List Call → Type 0
FitsAfter tells now n asked top s calls = TopFits tells now n asked top (stand_after s calls) (left_by s calls)

-- after one call more it is what they made and the call, and at each moment of the call the files that a crash leaves
-- show the top after a front that has all before the last flush that answered Ok
pub record GoesOn (tells : Bool) (old new : DiskState) (n : ℕ) (asked : HeadsAsked) (p q : Top) (s : Stand) (calls : List Call) (call : Call) : Type 0 where
  pub fits : FitsAfter tells new n asked q s (calls ++ call ∷ [])
  pub any_moment : Run (TopFiles (epoch_of p)) old new (ShowsFront (epoch_of p) n asked s calls)
