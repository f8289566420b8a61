use Rattle.std.proofs.Common.{[]}
use Rattle.image_core.specs.Creating.{fresh_at}
use Rattle.image_core.specs.Seen.{view, faults_in}
use Rattle.sharing_tests.proofs.images.started.Given as goal

abbrev pub ghosts-start : goal.ghosts-start
ghosts-start g a = record { it = fresh_at (view a.image).sectors [] (faults_in g.D.Disk a.image) }
