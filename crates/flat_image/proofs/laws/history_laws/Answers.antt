use Rattle.flat_image.proofs.CommitLaws.{open-commit, commit-image}
use Rattle.flat_image.proofs.HistoryLaws.{size-last, size-rises, top_since-freeze, used-sum, freeze-takes_top, frozen-stays, seal-adds_file, kept-is_place, kept-reaches, base-stays, after-is_image, base-is_image}
use Rattle.flat_image.proofs.LayerLaws.{reads-layer}
use Rattle.flat_image.proofs.LeftLaws.{leaves-now}
use Rattle.flat_image.proofs.SealedSheets.{fresh-few, becomes-layer}
use Rattle.flat_image.proofs.StackSizes.{sealed-stands}
use Rattle.flat_image.proofs.laws.history_laws.Goals as goal

pub returns : goal.returns
returns c = record {
  size = size-last;
  rises = size-rises;
  top = top_since-freeze;
  used = used-sum;
  freeze = freeze-takes_top;
  frozen = frozen-stays;
  seal = seal-adds_file;
  kept = kept-is_place;
  left = kept-reaches;
  crash = leaves-now;
  layer = becomes-layer;
  stands = sealed-stands;
  base = base-stays;
  image = after-is_image;
  commit = commit-image;
  open_commit = open-commit;
  fresh = fresh-few;
  whole = base-is_image;
  read = reads-layer;
}
