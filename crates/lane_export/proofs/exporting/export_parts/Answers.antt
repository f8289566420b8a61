use Rattle.std.proofs.Common.{◌≡◌, length, ap, ◌∙◌, arith}
use Rattle.lane_export.proofs.exporting.export_parts.Goals as goal

pub invariant_of-parts : goal.invariant_of-parts
invariant_of-parts g c =
    let many : length c.from_vec.result ≡ length c.args.parts.lanes =
    ap (λ l. length l) c.from_vec.ensures ∙ (c.export_disk-disk.ensures.count ∙ ap (λ l. length l) c.into_vec.ensures) in
    record { some = omega (arith, many, c.args.parts.some); few = omega (arith, many, c.args.parts.few) }

pub export_disk-disk-requires-clause-few : goal.export_disk-disk-requires-clause-few
export_disk-disk-requires-clause-few g c κs within =
    let many : length c.into_vec.result.items ≡ length c.args.parts.lanes = ap (λ l. length l) c.into_vec.ensures in
    omega (arith, many, c.args.parts.few)
