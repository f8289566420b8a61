-- A record that is gone through call by call.
use Rattle.std.specs.Prelude.{◌≡◌, ℕ, List}
use Rattle.block_disk.specs.declared.crash.CrashChoice.{CrashChoice}
use Rattle.block_disk.specs.declared.history.DiskCall.{DiskCall}
use Rattle.block_disk.specs.DiskState.{Files}
use Rattle.block_disk.specs.FileMap.{FileMap, bytes_in}
use Rattle.block_disk.specs.History.{seen_after, left_by}

-- one map has what a read gave after these calls, the other what the choice would have left then
pub record Replays (choice : CrashChoice) (start : Files) (past : List DiskCall) (seen_map left_map : FileMap) : Type 0 where
  pub seen : (f : ℕ) → bytes_in seen_map f ≡ seen_after start past f
  pub left : (f : ℕ) → bytes_in left_map f ≡ left_by choice start past f
