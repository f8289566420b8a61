use Rattle.std.proofs.Common.{◌≡◌, ℕ, ◌≤◌, All, sum, arith, rules}
use Rattle.std.proofs.iter.runs.Sources.{sums}
use Rattle.std.proofs.lemmas.List.Elements.{All-from_get_or}
use Rattle.std.proofs.lemmas.List.Sums.{sum_by-le}
use Rattle.image_make.proofs.sums.sector_sum.Goals as goal

pub sum-requires-clause-fits : goal.sum-requires-clause-fits
sum-requires-clause-fits c = search (rules, sums)

pub returns-clause-most : goal.returns-clause-most
returns-clause-most c =
    let is : c.sum.result ≡ sum c.args.sector.now = search rules in
    let bytes : All (λ (b : ℕ). b ≤ 255) c.args.sector.now =
    All-from_get_or (λ (b : ℕ). b ≤ 255) c.args.sector.now 0 (λ i within. let fits = c.type_inv.sector i in omega (arith, fits)) in
    omega (arith, is, sum_by-le (λ (b : ℕ). b) 255 c.args.sector.now bytes, c.requires)
