use Rattle.std.proofs.Common.{take}
use Rattle.std.specs.Prelude.{reverse}
use Rattle.block_disk.specs.FileMap.{bytes_in}
use Rattle.block_disk.specs.Replay.{Replays}
use Rattle.block_disk.proofs.history.History.left.Given as goal

abbrev pub invariant-loop-call : goal.invariant-loop-call
invariant-loop-call l = Replays l.choice (bytes_in l.fn.self.start) (reverse (take l.call-index l.self.calls.items)) l.seen l.left
