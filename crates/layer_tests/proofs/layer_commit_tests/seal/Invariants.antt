use Rattle.layer_commit.specs.Fitting.{IsFitted}
use Rattle.layer_tests.proofs.layer_commit_tests.seal.Given as goal

abbrev pub invariant-loop : goal.invariant-loop
invariant-loop g l = IsFitted g.D.Disk.tells (g.D.Disk.state l.disk) l.sealing
