use Rattle.image_core.specs.Steps.{MayRun}
use Rattle.image_tests.proofs.steps.list_of.Given as goal

abbrev pub invariant-loop-line : goal.invariant-loop-line
invariant-loop-line l = MayRun l.sectors l.list
