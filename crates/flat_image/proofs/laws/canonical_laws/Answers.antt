use Rattle.flat_image.proofs.JoinedStretches.{joined-are_longest}
use Rattle.flat_image.proofs.StretchUnique.{stretches-longest}
use Rattle.flat_image.proofs.CanonicalBytes.{file-is_layer}
use Rattle.flat_image.proofs.StretchCounts.{few-rows, adds-two}
use Rattle.flat_image.proofs.RowStretches.{rows-make_few}
use Rattle.flat_image.proofs.StackSizes.{head-stands}
use Rattle.flat_image.proofs.laws.canonical_laws.Goals as goal

pub returns : goal.returns
returns c = record {
  file = file-is_layer;
  stands = head-stands;
  runs = stretches-longest;
  joined = joined-are_longest;
  rows = few-rows;
  change = adds-two;
  painted = rows-make_few;
}
