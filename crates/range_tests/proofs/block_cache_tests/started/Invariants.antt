use Rattle.std.proofs.Common.{None}
use Rattle.range_tests.proofs.block_cache_tests.started.Given as goal

abbrev pub ghosts-start : goal.ghosts-start
ghosts-start a = record { it = record { capacity = a.cache.capacity; files = None } }
