use Rattle.std.proofs.Common.{◌≡◌, ◌+◌, ◌<◌, ◌≤◌, take, subst, arith}
use Rattle.std.proofs.lemmas.List.{take_all}
use Rattle.merged_index.specs.declared.segment.Segment.{Segment}
use Rattle.merged_index.specs.Segments.{segments_end}
use Rattle.merged_index.proofs.SegmentLaws.{cell_at-behind, cell_at-between, segment_says, end-segment, segment_at}
use Rattle.merged_index.proofs.search.run_from.Goals as goal

pub returns-then-next-len-clause-same : goal.returns-then-next-len-clause-same
returns-then-next-len-clause-same g c sector low high =
    let ss = c.args.segments.now in
    let all : take c.args.next ss ≡ ss = take_all c.args.next ss (omega arith) in
    let end : segments_end 0 ss ≤ c.args.from = subst (λ rs. segments_end 0 rs ≤ c.args.from) all c.requires.before in
    cell_at-behind 0 ss sector c.len.ensures.sound (omega arith)

pub returns-then-from-segment-clause-same : goal.returns-then-from-segment-clause-same
returns-then-from-segment-clause-same g c sector low high =
    let ss = c.args.segments.now in
    let s = c.probe-segment.result.now in
    let begins : sector < s.at = omega (arith, c.min.ensures) in
    cell_at-between 0 ss c.args.next s sector c.len.ensures.sound (omega arith) (omega (arith, c.requires.before))
    (subst (λ (r : Segment). sector < r.at) c.probe-segment.ensures.segment begins)

pub returns-then-end-behind-clause-same : goal.returns-then-end-behind-clause-same
returns-then-end-behind-clause-same g c sector low high =
    let ss = c.args.segments.now in
    let s = c.probe-segment.result.now in
    let begins : s.at ≤ sector = omega arith in
    let ends : sector < s.at + s.count = omega arith in
    segment_says ss c.args.next s c.args.from sector c.what_at-what.result c.len.ensures.sound (omega arith) c.probe-segment.ensures.segment c.if-from-segment.false low begins ends c.what_at-what.ensures

pub returns-clause-same : goal.returns-clause-same
returns-clause-same g c sector low high =
    let ss = c.args.segments.now in
    let s = c.probe-segment.result.now in
    let begins : s.at ≤ sector = omega arith in
    let ends : sector < s.at + s.count = omega arith in
    segment_says ss c.args.next s c.args.from sector c.what_at-what.result c.len.ensures.sound (omega arith) c.probe-segment.ensures.segment c.if-from-segment.false low begins ends c.what_at-what.ensures

pub returns-clause-before : goal.returns-clause-before
returns-clause-before g c =
    let ss = c.args.segments.now in
    let s = c.probe-segment.result.now in
    let last : segments_end 0 (take (c.args.next + 1) ss) ≡ s.at + s.count = end-segment 0 ss c.args.next s (omega arith) c.probe-segment.ensures.segment in
    omega (arith, last)

pub returns-clause-behind : goal.returns-clause-behind
returns-clause-behind g c d below some =
    let ss = c.args.segments.now in
    let s = c.probe-segment.result.now in
    let last : segments_end 0 (take (c.args.next + 1) ss) ≡ s.at + s.count = end-segment 0 ss c.args.next s (omega arith) c.probe-segment.ensures.segment in
    let is = segment_at 0 ss (c.args.next + 1) d c.len.ensures.sound below in
    omega (arith, last, is.order, is.some)
