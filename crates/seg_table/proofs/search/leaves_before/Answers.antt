use Rattle.std.proofs.Common.{◌≡◌, ℕ, ◌+◌, ◌-◌, ◌/◌, ◌<◌, ◌≤◌, List, [], length, get_or, subst, sym, ◌∙◌, arith}
use Rattle.std.proofs.lemmas.List.{get_or_default}
use Rattle.seg_table.specs.declared.segment.Segment.{Segment}
use Rattle.seg_table.specs.Segments.{first_of}
use Rattle.seg_table.proofs.Halving.{halved}
use Rattle.seg_table.proofs.search.leaves_before.Goals as goal

pub loop-low-preserved-then-first-sector : goal.loop-low-preserved-then-first-sector
loop-low-preserved-then-first-sector g c =
    let ls = c.args.leaves.now in
    let low = c.loop-low.low in
    let high = c.loop-low.high in
    let middle : ℕ = low + (high - low) / 2 in
    let below : middle < length ls = omega arith in
    let x = c.probe.result.now in
    let is : x ≡ get_or ls middle [] = c.probe.ensures.item ∙ get_or_default ls middle x [] below in
    let last : middle + 1 - 1 ≡ middle = omega arith in
    let first : first_of x ≤ c.args.sector = omega (arith, c.first-first.ensures) in (
      omega arith,
      omega arith,
      λ _. subst (λ n. first_of (get_or ls n []) ≤ c.args.sector) (sym last) (subst (λ (y : List Segment). first_of y ≤ c.args.sector) is first),
      c.loop-low.invariant.3,
      omega (arith, c.probe.ensures.counted),
      halved (length ls) (c.loop-low.steps - c.args.steps.now) (c.probe.new.steps - c.args.steps.now) (high - low) (high - (middle + 1))
          (omega (arith, c.probe.ensures.counted)) c.loop-low.invariant.5 (omega arith) (omega arith),
    )

pub loop-low-preserved : goal.loop-low-preserved
loop-low-preserved g c =
    let ls = c.args.leaves.now in
    let low = c.loop-low.low in
    let high = c.loop-low.high in
    let middle : ℕ = low + (high - low) / 2 in
    let below : middle < length ls = omega arith in
    let x = c.probe.result.now in
    let is : x ≡ get_or ls middle [] = c.probe.ensures.item ∙ get_or_default ls middle x [] below in
    let first : c.args.sector < first_of x = omega (arith, c.first-first.ensures) in (
      omega arith,
      omega arith,
      c.loop-low.invariant.2,
      λ _. subst (λ (y : List Segment). c.args.sector < first_of y) is first,
      omega (arith, c.probe.ensures.counted),
      halved (length ls) (c.loop-low.steps - c.args.steps.now) (c.probe.new.steps - c.args.steps.now) (high - low) (middle - low)
          (omega (arith, c.probe.ensures.counted)) c.loop-low.invariant.5 (omega arith) (omega arith),
    )
