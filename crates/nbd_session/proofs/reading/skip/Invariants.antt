use Rattle.std.proofs.Common.{◌≡◌, ℕ, List, length, ◌+◌}
use Rattle.std.specs.Io.KnownBytes.{Consumes}
use Rattle.nbd_session.proofs.reading.skip.Given as goal

abbrev pub invariant-loop-left : goal.invariant-loop-left
invariant-loop-left g l =
    (bytes : List ℕ) × (length bytes + l.left ≡ l.size) × Consumes (g.A.Source.left l.initial.source) (g.A.Source.left l.source) bytes
    × (g.A.Source.faults l.source ≡ g.A.Source.faults l.initial.source)

abbrev pub decreases-loop-left : goal.decreases-loop-left
decreases-loop-left g l = l.left
