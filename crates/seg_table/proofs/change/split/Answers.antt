use Rattle.std.proofs.Common.{◌≡◌, ◌-◌, [], ◌++◌, List, length, take, drop, get_or, ap, ◌∙◌}
use Rattle.std.proofs.lemmas.List.{take_rest, get_or_default}
use Rattle.seg_table.specs.declared.segment.Segment.{Segment}
use Rattle.seg_table.proofs.PutLaws.{split-sizes, split-same}
use Rattle.seg_table.proofs.change.split.Goals as goal

pub returns-clause-sizes : goal.returns-clause-sizes
returns-clause-sizes c =
    let ls = c.args.leaves.now.items in
    let i = c.args.number in
    let cut = c.cut_of-cut.result in
    let below = c.requires.leaves.within in
    let first : c.truncate.new.self ≡ take cut (get_or ls i []) = c.truncate.ensures ∙ ap (λ (z : List Segment). take cut z) (c.index_mut.ensures.value ∙ get_or_default ls i _ [] below) in
    let x : c.as_slice.result.now ≡ get_or ls i [] = c.as_slice.ensures ∙ c.index.ensures ∙ get_or_default ls i _ [] below in
    let second : c.extend.new.self ≡ drop cut (get_or ls i []) = c.extend.ensures ∙ ap (λ (z : List Segment). z ++ take (length c.as_slice.result.now - cut) (drop cut c.as_slice.result.now)) c.clear.ensures
    ∙ take_rest c.as_slice.result.now cut ∙ ap (λ (z : List Segment). drop cut z) x in
    split-sizes ls c.insert_leaf.new.leaves.items i cut c.truncate.new.self c.extend.new.self c.requires.leaves c.requires.many c.cut_of-cut.ensures.rest c.cut_of-cut.ensures.most
    c.insert_leaf.ensures.leaves first second

pub returns-clause-same : goal.returns-clause-same
returns-clause-same c =
    let ls = c.args.leaves.now.items in
    let i = c.args.number in
    let cut = c.cut_of-cut.result in
    let below = c.requires.leaves.within in
    let first : c.truncate.new.self ≡ take cut (get_or ls i []) = c.truncate.ensures ∙ ap (λ (z : List Segment). take cut z) (c.index_mut.ensures.value ∙ get_or_default ls i _ [] below) in
    let x : c.as_slice.result.now ≡ get_or ls i [] = c.as_slice.ensures ∙ c.index.ensures ∙ get_or_default ls i _ [] below in
    let second : c.extend.new.self ≡ drop cut (get_or ls i []) = c.extend.ensures ∙ ap (λ (z : List Segment). z ++ take (length c.as_slice.result.now - cut) (drop cut c.as_slice.result.now)) c.clear.ensures
    ∙ take_rest c.as_slice.result.now cut ∙ ap (λ (z : List Segment). drop cut z) x in
    split-same ls c.insert_leaf.new.leaves.items i cut c.truncate.new.self c.extend.new.self below c.insert_leaf.ensures.leaves first second
