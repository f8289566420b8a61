-- A disk that does not tell.
use Rattle.std.specs.Prelude.{[]}
use Rattle.block_disk.specs.DiskState.{DiskState}

-- nothing is known of what it holds, and it allows no file set
abbrev pub untold : DiskState
untold = record { seen = λ f. []; may_leave = λ f c. ⊥; moment = 0; left_at = λ k files. ⊥ }
