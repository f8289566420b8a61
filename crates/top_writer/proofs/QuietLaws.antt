-- Calls that change nothing, one after another.
use Rattle.std.proofs.Common.{◌≡◌, ℕ, List, length, take, drop, ap, ◌∙◌}
use Rattle.block_disk.specs.Changes.{Same}
use Rattle.block_disk.specs.Claims.{Quiet}
use Rattle.block_disk.specs.DiskState.{DiskState, Files, Leaves, Steps}
use Rattle.block_disk.proofs.Moments.{run_started, run_joined, quiet_call}

pub quiet_none : (now : DiskState) → ((files : Files) → now.left_at now.moment files → Leaves now files) → Quiet now now
quiet_none now now_at = run_started (λ f. ⊥) now (λ files. Unit {0}) now_at (λ files leaves. tt)

pub quiet_joined : (old mid new : DiskState) → Quiet old mid → Quiet mid new → Quiet old new
quiet_joined old mid new first second = run_joined (λ f. ⊥) old mid new (λ files. Unit {0}) first second

pub quiet_three : (old one two new : DiskState) → Quiet old one → Quiet one two → Quiet two new → Quiet old new
quiet_three old one two new first second third = quiet_joined old two new (quiet_joined old one two first second) third

pub quiet_four : (old one two three new : DiskState) → Quiet old one → Quiet one two → Quiet two three → Quiet three new → Quiet old new
quiet_four old one two three new first second third fourth = quiet_joined old three new (quiet_three old one two three first second third) fourth

pub quiet_on : (file : ℕ) (old mid new : DiskState) → Quiet old mid → ((files : Files) → mid.left_at mid.moment files → Leaves mid files) → Steps file Same mid new → Quiet old new
quiet_on file old mid new quiet now_at steps = quiet_joined old mid new quiet (quiet_call file mid new now_at steps)

-- each file reads as before
pub quiet_seen : (old new : DiskState) → Quiet old new → (f : ℕ) → new.seen f ≡ old.seen f
quiet_seen old new quiet f = quiet.others.seen f (λ x. x)

-- so what was read of a file later is a piece of it
pub read_later : (old mid : DiskState) (number file at : ℕ) (bytes : List ℕ) → Quiet old mid → number ≡ file → bytes ≡ take (length bytes) (drop at (mid.seen number))
    → bytes ≡ take (length bytes) (drop at (old.seen file))
read_later old mid number file at bytes quiet same is =
    is ∙ ap (λ (whole : List ℕ). take (length bytes) (drop at whole)) (ap mid.seen same ∙ quiet_seen old mid quiet file)

-- and a crash leaves what it might have left
pub quiet_left : (old new : DiskState) → Quiet old new → (f : ℕ) (c : List ℕ) → new.may_leave f c → old.may_leave f c
quiet_left old new quiet f c left = quiet.others.left f c (λ x. x) left
