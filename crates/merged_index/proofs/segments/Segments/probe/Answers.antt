use Rattle.std.proofs.Common.{◌<◌, List, length, take, sym, subst}
use Rattle.merged_index.specs.declared.segment.Segment.{Segment}
use Rattle.merged_index.specs.Segments.{IsSegment, segments_end}
use Rattle.merged_index.proofs.SegmentLaws.{segment_at}
use Rattle.merged_index.proofs.segments.Segments.probe.Goals as goal

pub returns-clause-sound : goal.returns-clause-sound
returns-clause-sound g c =
    let ss = c.self.inside.items.items in
    let i = c.args.number in
    let within = subst (λ (xs : List Segment). i < length xs) (sym c.self.view_is) c.requires.within in
    let is = segment_at 0 ss i c.index.result.now c.self.invariant within in
    subst (λ (xs : List Segment). IsSegment (segments_end 0 (take i xs)) c.index.result.now) c.self.view_is
    (subst (IsSegment (segments_end 0 (take i ss))) (sym c.index.ensures) is)
