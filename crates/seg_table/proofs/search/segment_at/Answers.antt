use Rattle.std.proofs.Common.{◌+◌, [], ◌∷◌, List, length, get_or, sym, ap, ◌∙◌, arith}
use Rattle.std.proofs.lemmas.List.{get_or_default}
use Rattle.seg_table.specs.declared.segment.Segment.{Segment}
use Rattle.seg_table.specs.Segments.{left_at}
use Rattle.seg_table.proofs.LeafLaws.{left-none, left-cons, place-number}
use Rattle.seg_table.proofs.search.segment_at.Goals as goal

pub returns-then-place-leaves-clause-none : goal.returns-then-place-leaves-clause-none
returns-then-place-leaves-clause-none g c = left-none c.args.leaves.now c.args.place.leaf c.args.place.number (omega arith)

pub probe-requires : goal.probe-requires
probe-requires g c =
    let ls = c.args.leaves.now in
    let x = c.index-leaves-place.result in
    let same = ap (λ (y : List Segment). length y) (c.as_slice-segments.ensures ∙ c.index-leaves-place.is ∙ get_or_default ls c.args.place.leaf x [] (omega arith)) in
    omega (arith, same, place-number ls c.args.place.leaf c.args.place.number c.requires.place (omega arith))

pub returns-clause-stands : goal.returns-clause-stands
returns-clause-stands g c = (omega arith, place-number c.args.leaves.now c.args.place.leaf c.args.place.number c.requires.place (omega arith))

pub returns-clause-some : goal.returns-clause-some
returns-clause-some g c =
    let ls = c.args.leaves.now in
    let i = c.args.place.leaf in
    let n = c.args.place.number in
    let x = c.index-leaves-place.result in
    let s = c.probe.result.now in
    let is = c.as_slice-segments.ensures ∙ c.index-leaves-place.is ∙ get_or_default ls i x [] (omega arith) in
    left-cons ls i n s (omega arith) (place-number ls i n c.requires.place (omega arith))
    ∙ ap (λ (t : Segment). t ∷ left_at ls i (n + 1)) (sym (c.probe.ensures.item ∙ ap (λ (y : List Segment). get_or y n s) is))
