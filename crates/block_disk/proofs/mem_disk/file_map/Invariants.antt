use Rattle.std.proofs.Common.{◌≡◌, ℕ}
use Rattle.std.specs.Prelude.{reverse}
use Rattle.block_disk.specs.FileMap.{bytes_in, listed}
use Rattle.block_disk.proofs.mem_disk.file_map.Given as goal

abbrev pub invariant-loop-number : goal.invariant-loop-number
invariant-loop-number l = (f : ℕ) → bytes_in l.map f ≡ listed (reverse l.yielded) f
