use Rattle.std.proofs.Common.{None}
use Rattle.range_tests.proofs.speed_tests.shared.Given as goal

abbrev pub ghosts-start : goal.ghosts-start
ghosts-start a = record { it = record { capacity = a.cache.capacity; files = None } }
