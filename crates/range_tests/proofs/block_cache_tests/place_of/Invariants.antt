use Rattle.std.proofs.Common.{◌≤◌, ◌-◌, length}
use Rattle.range_tests.proofs.block_cache_tests.place_of.Given as goal

abbrev pub invariant-loop-at : goal.invariant-loop-at
invariant-loop-at l = l.at ≤ length l.list

abbrev pub decreases-loop-at : goal.decreases-loop-at
decreases-loop-at l = length l.list - l.at
