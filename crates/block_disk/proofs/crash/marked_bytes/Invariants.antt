use Rattle.std.proofs.Common.{◌≡◌, ◌++◌, drop}
use Rattle.std.specs.Prelude.{◌%◌, ◌==◌}
use Rattle.block_disk.specs.History.{marked}
use Rattle.block_disk.proofs.crash.marked_bytes.Given as goal

abbrev pub invariant-loop-byte : goal.invariant-loop-byte
invariant-loop-byte l = l.out.items ++ marked l.is_odd (drop l.byte-index l.bytes) ≡ marked (l.fn.at % 2 == 1) l.bytes
