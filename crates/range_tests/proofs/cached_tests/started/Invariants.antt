use Rattle.std.proofs.Common.{Some}
use Rattle.range_tests.proofs.cached_tests.started.Given as goal

abbrev pub ghosts-started_as : goal.ghosts-started_as
ghosts-started_as a = record { it = record { capacity = a.capacity; files = Some a.shelf.now.files } }
