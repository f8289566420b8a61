use Rattle.std.proofs.Common.{refl}
use Rattle.block_cache.proofs.examples.last_used_first_law.Goals as goal

pub returns : goal.returns
returns c = record {
  looked_up_stays = refl;
  put_again = refl;
  skipped = refl;
}
