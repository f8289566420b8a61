-- `read_full` keeps what it took in the front of the buffer.
use Rattle.std.proofs.Common.{length, ◌-◌, ◌≡◌, ◌≤◌, take}
use Rattle.std.specs.Io.KnownBytes.{Consumes}
use Rattle.byte_ports.proofs.reading.read_full.Given as goal

abbrev pub invariant-loop-at : goal.invariant-loop-at
invariant-loop-at g l =
    (length l.out ≡ length l.initial.out) × (l.at ≤ length l.out)
    × Consumes (g.A.Source.left l.initial.source) (g.A.Source.left l.source) (take l.at l.out)
    × (g.A.Source.faults l.source ≡ g.A.Source.faults l.initial.source)

abbrev pub decreases-loop-at : goal.decreases-loop-at
decreases-loop-at g l = length l.initial.out - l.at
