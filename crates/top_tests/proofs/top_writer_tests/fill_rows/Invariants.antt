use Rattle.std.proofs.Common.{◌≡◌}
use Rattle.top_writer.specs.Fitting.{IsFitted}
use Rattle.top_writer.specs.View.{sectors_of}
use Rattle.top_tests.proofs.top_writer_tests.fill_rows.Given as goal

abbrev pub invariant-loop : goal.invariant-loop
invariant-loop g l = (sectors_of l.top ≡ 131072) × IsFitted g.D.Disk.tells (g.D.Disk.state l.disk) l.top

abbrev pub invariant-loop-2 : goal.invariant-loop-2
invariant-loop-2 g l = (sectors_of l.top ≡ 131072) × IsFitted g.D.Disk.tells (g.D.Disk.state l.disk) l.top
