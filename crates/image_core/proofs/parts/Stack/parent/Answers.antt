use Rattle.std.proofs.Common.{List, map, sym, ap, ◌∙◌}
use Rattle.lsmt_header.specs.Blocks.{nil}
use Rattle.sealed_layer.specs.Layers.{LayerIndex}
use Rattle.flat_image.specs.Stacks.{uppermost}
use Rattle.image_core.proofs.FrozenTops.{upper-more}
use Rattle.image_core.proofs.parts.Stack.parent.Goals as goal

pub returns : goal.returns
returns c =
    let field = λ (l : LayerIndex). l.head.uuid in
    c.uuid_of-2.ensures
    ∙ ((λ i. uppermost ((c.uuid_of.ensures ∙ ap (λ (l : List LayerIndex). uppermost nil (map field l)) c.as_slice-2.ensures) i) (map field (c.as_slice.ensures.value i)))
    ∙ sym (upper-more field nil c.args.self.now.lowers c.args.self.now.committed.items))
