-- What a turn wrote follows what was written before.
use Rattle.std.proofs.Common.{rules}
use Rattle.byte_ports.proofs.Chains.{Appends-piece}
use Rattle.byte_ports.proofs.over_std.write_pieces.Goals as goal

pub loop-at-preserved : goal.loop-at-preserved
loop-at-preserved g c =
    (search rules, Appends-piece _ _ _ _ _ _ c.loop-at.invariant.1 c.in_ok-at.ensures.bytes)
