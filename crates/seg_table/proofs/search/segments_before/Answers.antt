use Rattle.std.proofs.Common.{◌≡◌, ℕ, ◌+◌, ◌-◌, ◌/◌, ◌<◌, length, take, subst, sym, ap, ◌∙◌, arith}
use Rattle.std.proofs.lemmas.List.{get_or_default}
use Rattle.seg_table.specs.declared.segment.Segment.{Segment}
use Rattle.seg_table.specs.Pieces.{end_of}
use Rattle.seg_table.specs.Segments.{segments_end}
use Rattle.seg_table.proofs.SortedLaws.{end-next}
use Rattle.seg_table.proofs.Halving.{halved}
use Rattle.seg_table.proofs.search.segments_before.Goals as goal

pub loop-low-preserved-then-end-sector : goal.loop-low-preserved-then-end-sector
loop-low-preserved-then-end-sector g c =
    let ss = c.args.segments.now in
    let low = c.loop-low.low in
    let high = c.loop-low.high in
    let middle : ℕ = low + (high - low) / 2 in
    let below : middle < length ss = omega arith in
    let s = c.probe.result.now in
    let last : segments_end 0 (take (middle + 1) ss) ≡ end_of s = end-next 0 ss middle s below ∙ ap end_of (sym c.probe.ensures.item) in (
      omega arith,
      omega arith,
      omega (arith, last),
      c.loop-low.invariant.3,
      omega (arith, c.probe.ensures.counted),
      halved (length ss) (c.loop-low.steps - c.args.steps.now) (c.probe.new.steps - c.args.steps.now) (high - low) (high - (middle + 1))
          (omega (arith, c.probe.ensures.counted)) c.loop-low.invariant.5 (omega arith) (omega arith),
    )

pub loop-low-preserved : goal.loop-low-preserved
loop-low-preserved g c =
    let ss = c.args.segments.now in
    let low = c.loop-low.low in
    let high = c.loop-low.high in
    let middle : ℕ = low + (high - low) / 2 in
    let s = c.probe.result.now in
    let behind : c.args.sector < end_of s = omega arith in (
      omega arith,
      omega arith,
      c.loop-low.invariant.2,
      λ d below. subst (λ (r : Segment). c.args.sector < end_of r) (c.probe.ensures.item ∙ get_or_default ss middle s d below) behind,
      omega (arith, c.probe.ensures.counted),
      halved (length ss) (c.loop-low.steps - c.args.steps.now) (c.probe.new.steps - c.args.steps.now) (high - low) (middle - low)
          (omega (arith, c.probe.ensures.counted)) c.loop-low.invariant.5 (omega arith) (omega arith),
    )
