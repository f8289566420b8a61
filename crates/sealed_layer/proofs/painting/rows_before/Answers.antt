use Rattle.std.proofs.Common.{◌≤◌, leb, leb-true, arith, rules}
use Rattle.std.proofs.lemmas.List.Sorted.{IsPartitionPoint-from_clause, IsPartitionedBy-leb}
use Rattle.std.proofs.Math.ListN.{get_or}
use Rattle.sealed_layer.proofs.Ends.{end_in, ends_rise, end_of-take}
use Rattle.sealed_layer.proofs.painting.rows_before.Goals as goal

pub returns-clause-before : goal.returns-clause-before
returns-clause-before c n index_at are =
    let parted = IsPartitionedBy-leb end_in c.args.rows.now c.args.at (λ i j d le below. ends_rise n index_at 0 c.args.rows.now i j d are le below) in
    let point = IsPartitionPoint-from_clause (λ row. leb (end_in row) c.args.at) c.args.rows.now c.partition_point.result c.partition_point.ensures.partitioned parted (λ a r f k. search rules) in
    end_of-take 0 c.args.at c.args.rows.now c.partition_point.result (omega arith) c.partition_point.ensures.bound (λ k d below.
    let fits = c.requires.fits k d (omega (arith, c.partition_point.ensures.bound)) in
    let at : end_in (get_or c.args.rows.now k d) ≤ c.args.at = leb-true _ _ (point.0 k d (omega arith) below) in
    omega (arith, at, fits.offset, fits.count))
