use Rattle.std.proofs.Common.{refl}
use Rattle.block_cache.proofs.examples.two_in_turn_law.Goals as goal

pub returns : goal.returns
returns c = record {
  first_misses = refl;
  second_misses = refl;
  third_misses = refl;
  fourth_misses = refl;
  two_are_in = refl;
  third_hits = refl;
  fourth_hits = refl;
}
