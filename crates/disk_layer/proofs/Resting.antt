-- A call that changes nothing, behind others.
use Rattle.std.proofs.Common.{ℕ}
use Rattle.block_disk.specs.Changes.{Same}
use Rattle.block_disk.specs.Claims.{Quiet}
use Rattle.block_disk.specs.DiskState.{DiskState, Files, Leaves, Steps}
use Rattle.block_disk.proofs.Moments.{run_joined, quiet_call}

pub rests-on : (file : ℕ) (old mid new : DiskState) → Quiet old mid → ((files : Files) → mid.left_at mid.moment files → Leaves mid files)
    → Steps file Same mid new → Quiet old new
rests-on file old mid new quiet now_at steps = run_joined (λ f. ⊥) old mid new (λ files. Unit {0}) quiet (quiet_call file mid new now_at steps)
