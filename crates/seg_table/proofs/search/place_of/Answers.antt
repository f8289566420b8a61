use Rattle.std.proofs.Common.{[], List, length, ap, ◌∙◌, arith}
use Rattle.std.proofs.lemmas.List.{get_or_default}
use Rattle.seg_table.specs.declared.segment.Segment.{Segment}
use Rattle.seg_table.proofs.LeafLaws.{left-next, place-leaf, place-next}
use Rattle.seg_table.proofs.search.place_of.Goals as goal

pub returns-then-number-len-clause-place : goal.returns-then-number-len-clause-place
returns-then-number-len-clause-place c = place-next c.args.leaves.now c.args.leaf c.requires.leaves.sizes c.requires.leaf

pub returns-then-number-len-clause-left : goal.returns-then-number-len-clause-left
returns-then-number-len-clause-left c =
    let ls = c.args.leaves.now in
    let x = c.index-leaves-leaf.result in
    let same = ap (λ (y : List Segment). length y) (c.index-leaves-leaf.is ∙ get_or_default ls c.args.leaf x [] c.requires.leaf) in
    left-next ls c.args.leaf c.args.number c.requires.leaf (c.if-number-len.true ∙ c.len.ensures ∙ same)

pub returns-clause-place : goal.returns-clause-place
returns-clause-place c =
    let ls = c.args.leaves.now in
    let x = c.index-leaves-leaf.result in
    let same = ap (λ (y : List Segment). length y) (c.index-leaves-leaf.is ∙ get_or_default ls c.args.leaf x [] c.requires.leaf) in
    place-leaf ls c.args.leaf c.args.number c.requires.leaf (omega (arith, same, c.len.ensures, c.if-number-len.false, c.requires.number))
