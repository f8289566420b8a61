use Rattle.image_core.specs.Seen.{seen}
use Rattle.image_tests.specs.Over.{IsOver}
use Rattle.image_tests.proofs.scenes.play.Given as goal

abbrev pub invariant-loop-part : goal.invariant-loop-part
invariant-loop-part g l = IsOver l.shelf.files (seen g.D.Disk l.image)
