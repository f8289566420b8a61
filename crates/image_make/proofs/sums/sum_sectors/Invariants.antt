use Rattle.std.proofs.Common.{◌≡◌, ◌+◌, ◌*◌, ◌≤◌, length, sum, cond, ltb}
use Rattle.std.specs.Prelude.{sum_by}
use Rattle.flat_image.specs.Sheets.{image_in}
use Rattle.flat_image.specs.Sectors.{sectors_in}
use Rattle.image_make.proofs.sums.sum_sectors.Given as goal

abbrev pub invariant-loop-left : goal.invariant-loop-left
invariant-loop-left l = record {
  filled : l.filled + sum_by (λ sector. cond (ltb 0 (sum sector)) 1 0) (image_in l.left l.rest)
      ≡ sum_by (λ sector. cond (ltb 0 (sum sector)) 1 0) (sectors_in l.bytes);
  total : l.total + sum_by sum (image_in l.left l.rest) ≡ sum_by sum (sectors_in l.bytes);
  long : length l.rest ≡ 512 * l.left;
  filled_most : l.filled + l.left ≤ 4096;
  total_most : l.total + 130560 * l.left ≤ 534773760;
}

abbrev pub decreases-loop-left : goal.decreases-loop-left
decreases-loop-left l = l.left
