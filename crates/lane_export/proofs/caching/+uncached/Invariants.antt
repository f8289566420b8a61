use Rattle.std.specs.Prelude.{vec_len}
use Rattle.lane_export.proofs.caching.+uncached.Given as goal

abbrev pub decreases-uncached : goal.decreases-uncached
decreases-uncached g l = vec_len l.cached.now
