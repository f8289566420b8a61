use Rattle.std.proofs.Common.{◌≡◌, ℕ, ◌+◌, ◌-◌, ◌/◌, ◌<◌, length, take, subst, ◌∙◌, arith}
use Rattle.std.proofs.lemmas.List.{get_or_default}
use Rattle.merged_index.specs.declared.segment.Segment.{Segment}
use Rattle.merged_index.specs.Segments.{segments_end}
use Rattle.merged_index.proofs.SegmentLaws.{end-segment}
use Rattle.merged_index.proofs.Halving.{halved}
use Rattle.merged_index.proofs.search.segments_before.Goals as goal

pub loop-low-preserved-then-segment-sector : goal.loop-low-preserved-then-segment-sector
loop-low-preserved-then-segment-sector g c =
    let ss = c.args.segments.now in
    let low = c.loop-low.low in
    let high = c.loop-low.high in
    let middle : ℕ = low + (high - low) / 2 in
    let below : middle < length ss = omega arith in
    let s = c.probe-segment.result.now in
    let last : segments_end 0 (take (middle + 1) ss) ≡ s.at + s.count = end-segment 0 ss middle s below c.probe-segment.ensures.segment in (
      omega arith,
      omega arith,
      omega (arith, last),
      c.loop-low.invariant.3,
      omega (arith, c.probe-segment.ensures.counted),
      halved (length ss) (c.loop-low.steps - c.args.steps.now) (c.probe-segment.new.steps - c.args.steps.now) (high - low) (high - (middle + 1))
          (omega (arith, c.probe-segment.ensures.counted)) c.loop-low.invariant.5 (omega arith) (omega arith),
    )

pub loop-low-preserved : goal.loop-low-preserved
loop-low-preserved g c =
    let ss = c.args.segments.now in
    let low = c.loop-low.low in
    let high = c.loop-low.high in
    let middle : ℕ = low + (high - low) / 2 in
    let s = c.probe-segment.result.now in
    let behind : c.args.sector < s.at + s.count = omega arith in (
      omega arith,
      omega arith,
      c.loop-low.invariant.2,
      λ d below. subst (λ (r : Segment). c.args.sector < r.at + r.count) (c.probe-segment.ensures.segment ∙ get_or_default ss middle s d below) behind,
      omega (arith, c.probe-segment.ensures.counted),
      halved (length ss) (c.loop-low.steps - c.args.steps.now) (c.probe-segment.new.steps - c.args.steps.now) (high - low) (middle - low)
          (omega (arith, c.probe-segment.ensures.counted)) c.loop-low.invariant.5 (omega arith) (omega arith),
    )
