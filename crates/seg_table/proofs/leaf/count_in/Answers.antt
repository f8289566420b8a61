use Rattle.std.proofs.Common.{◌≡◌, ◌+◌, length, take, ap, ◌∙◌, arith}
use Rattle.std.proofs.lemmas.List.{take_all}
use Rattle.seg_table.specs.Segments.{joined}
use Rattle.seg_table.proofs.LeafLaws.{count-more, count-within}
use Rattle.seg_table.proofs.leaf.count_in.Goals as goal

pub overflow_add-count : goal.overflow_add-count
overflow_add-count c =
    let ls = c.args.leaves.now in
    let i = c.loop-leaf.leaf-index in
    let x = c.leaf-item.result in
    let count : c.loop-leaf.count ≡ length (joined (take i ls)) = c.loop-leaf.invariant in
    let is = ap (λ (y : _). length y) c.leaf-item.is in
    omega (arith, count, c.len-count.ensures, is, count-more ls i x c.loop-leaf-test.true, count-within ls (i + 1), c.requires.few)

pub loop-leaf-preserved : goal.loop-leaf-preserved
loop-leaf-preserved c =
    let ls = c.args.leaves.now in
    let i = c.loop-leaf.leaf-index in
    let x = c.leaf-item.result in
    let count : c.loop-leaf.count ≡ length (joined (take i ls)) = c.loop-leaf.invariant in
    let is = ap (λ (y : _). length y) c.leaf-item.is in
    omega (arith, count, c.len-count.ensures, is, count-more ls i x c.loop-leaf-test.true)

pub returns : goal.returns
returns c =
    let ls = c.args.leaves.now in
    let count : c.loop-leaf.count ≡ length (joined (take c.loop-leaf.leaf-index ls)) = c.loop-leaf.invariant in
    count ∙ ap (λ ys. length (joined ys)) (take_all c.loop-leaf.leaf-index ls (omega arith))
