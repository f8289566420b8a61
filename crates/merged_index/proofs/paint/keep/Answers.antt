use Rattle.std.proofs.Common.{◌≡◌, inl, inr, ◌+◌, ◌<◌, length, take, ◌∙◌, slice_index_or, arith}
use Rattle.merged_index.specs.declared.segment.Segment.{Segment}
use Rattle.merged_index.specs.Segments.{segments_end}
use Rattle.merged_index.proofs.SegmentLaws.{lower, segment_at, nothing, end-next, kept_more, kept_all}
use Rattle.merged_index.proofs.EdgeLaws.{widened}
use Rattle.merged_index.proofs.paint.keep.Goals as goal

pub add_part-requires-clause-sound : goal.add_part-requires-clause-sound
add_part-requires-clause-sound c = lower _ _ (segment_at 0 c.args.lower.now c.loop-number.number nothing c.requires.lower (omega arith))

pub add_part-requires-clause-end : goal.add_part-requires-clause-end
add_part-requires-clause-end c q low high =
    let is = segment_at 0 c.args.lower.now c.loop-number.number nothing c.requires.lower (omega arith) in
    c.loop-number.invariant.2 q low (omega (arith, is.order))

pub overflow_add-segment : goal.overflow_add-segment
overflow_add-segment c =
    let is = segment_at 0 c.args.lower.now c.loop-number.number nothing c.requires.lower (omega arith) in
    omega (arith, is.range)

pub returns-then-until-segment-clause-cells : goal.returns-then-until-segment-clause-cells
returns-then-until-segment-clause-cells c p low high =
    kept_more c.args.lower.now c.loop-number.made.items c.add_part.new.made.items c.loop-number.number nothing c.args.from c.args.until p c.requires.lower (omega arith)
    c.loop-number.invariant.1 c.loop-number.invariant.2 c.loop-number.invariant.5 c.in_ok-add_part.ensures.before c.in_ok-add_part.ensures.cells low high (omega arith)

pub returns-then-until-segment-clause-edges : goal.returns-then-until-segment-clause-edges
returns-then-until-segment-clause-edges c p edge = elim (c.in_ok-add_part.ensures.edges p edge) [
  | inl old ↦ c.loop-number.invariant.6 p old
  | inr kept ↦ inr (widened c.args.lower.now c.loop-number.number nothing c.args.from c.args.until p (omega arith) kept)
]

pub loop-number-preserved : goal.loop-number-preserved
loop-number-preserved c =
    let ss = c.args.lower.now in
    let i = c.loop-number.number in
    let below : i < length ss = omega arith in
    let s : Segment = slice_index_or ss i nothing in
    let last : segments_end 0 (take (i + 1) ss) ≡ s.at + s.count = end-next 0 ss i nothing below in (
      omega (arith, last),
      c.in_ok-add_part.ensures.sound,
      λ q low high. c.in_ok-add_part.ensures.end q low (omega (arith, last)),
      c.in_ok-add_part.ensures.until c.loop-number.invariant.3,
      λ p before. c.in_ok-add_part.ensures.before p (inl before) ∙ c.loop-number.invariant.4 p before,
      λ p low high. kept_more ss c.loop-number.made.items c.add_part.new.made.items i nothing c.args.from c.args.until p c.requires.lower below
          c.loop-number.invariant.1 c.loop-number.invariant.2 c.loop-number.invariant.5 c.in_ok-add_part.ensures.before c.in_ok-add_part.ensures.cells low (omega (arith, last)) (omega (arith, last)),
      λ p edge. elim (c.in_ok-add_part.ensures.edges p edge) [
        | inl old ↦ c.loop-number.invariant.6 p old
        | inr kept ↦ inr (widened ss i nothing c.args.from c.args.until p below kept)
      ],
    )

pub returns-clause-cells : goal.returns-clause-cells
returns-clause-cells c p low high =
    kept_all c.args.lower.now c.loop-number.made.items c.loop-number.number c.args.from p c.requires.lower (omega arith) c.loop-number.invariant.1 c.loop-number.invariant.2 c.loop-number.invariant.5 low
