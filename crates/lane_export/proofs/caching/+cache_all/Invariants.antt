use Rattle.std.specs.Prelude.{vec_len}
use Rattle.lane_export.proofs.caching.+cache_all.Given as goal

abbrev pub decreases-cache_all : goal.decreases-cache_all
decreases-cache_all g l = vec_len l.pairs
