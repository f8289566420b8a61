use Rattle.std.proofs.Common.{◌≡◌, ◌+◌, ◌≤◌, [], ◌∷◌, ◌++◌, List, length, sym, ap, subst, ◌∙◌, arith}
use Rattle.std.proofs.lemmas.List.{length-append}
use Rattle.seg_table.specs.declared.segment.Segment.{Segment}
use Rattle.seg_table.specs.Pieces.{end_of}
use Rattle.seg_table.specs.Segments.{IsBeyond, IsPutInto}
use Rattle.seg_table.proofs.SortedLaws.{number-order}
use Rattle.seg_table.proofs.ChangeLaws.{put-between}
use Rattle.seg_table.proofs.LeafLaws.{nothing}
use Rattle.seg_table.proofs.change.put_apart.Goals as goal

pub add_beyond-requires-clause-room : goal.add_beyond-requires-clause-room
add_beyond-requires-clause-room g c =
    let s = c.args.segment in
    let order = number-order c.args.segments.now c.segments_before-before.result c.segments_before-passed.result s.extent.at c.end-end.result c.requires.sorted
    c.segments_before-before.ensures.within c.segments_before-before.ensures.before (omega (arith, c.end-end.ensures)) c.segments_before-passed.ensures.behind nothing in
    let size = ap (λ (ys : List Segment). length ys) c.push.ensures ∙ length-append c.add_before.new.made (s ∷ []) in
    omega (arith, order, size, c.add_before.ensures.few, c.requires.room)

pub returns-clause-put : goal.returns-clause-put
returns-clause-put g c =
    let xs = c.args.segments.now in
    let s = c.args.segment in
    let front = c.add_before.new.made in
    let back = c.add_beyond.ensures.beyond.0 in
    let order = number-order xs c.segments_before-before.result c.segments_before-passed.result s.extent.at c.end-end.result c.requires.sorted
    c.segments_before-before.ensures.within c.segments_before-before.ensures.before (omega (arith, c.end-end.ensures)) c.segments_before-passed.ensures.behind nothing in
    let size = ap (λ (ys : List Segment). length ys) c.push.ensures ∙ length-append front (s ∷ []) in
    let made : c.add_beyond.new.made ≡ (front ++ s ∷ []) ++ back = c.add_beyond.ensures.beyond.1 ∙ ap (λ (ys : List Segment). ys ++ back) c.push.ensures in
    let beyond : IsBeyond (end_of s) xs back = subst (λ q. IsBeyond q xs back) c.end-end.ensures c.add_beyond.ensures.beyond.2 in
    let all : length c.add_beyond.new.made ≤ length xs + 2 = omega (arith, order, size, c.add_before.ensures.few, c.add_beyond.ensures.few) in
    let few : length ((front ++ s ∷ []) ++ back) ≤ length xs + 2 = subst (λ (ys : List Segment). length ys ≤ length xs + 2) made all in
    subst (IsPutInto s xs) (sym made) (put-between xs front back s c.requires.put c.add_before.ensures.before beyond few)
