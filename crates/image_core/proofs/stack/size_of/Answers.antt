use Rattle.std.proofs.Common.{◌-◌, length, sym, ap, ◌∙◌}
use Rattle.lsmt_header.specs.declared.head.Head.{Head}
use Rattle.sealed_layer.specs.Layers.{LayerIndex}
use Rattle.flat_image.proofs.StackSizes.{uppermost-at}
use Rattle.image_core.proofs.Loaded.{last-place}
use Rattle.image_core.proofs.stack.size_of.Goals as goal

pub returns : goal.returns
returns c =
    ap (λ (h : Head). h.sectors) c.head.ensures
    ∙ (ap (λ (l : LayerIndex). l.head.sectors) c.index-layers-layers.is
    ∙ sym (uppermost-at (λ (l : LayerIndex). l.head.sectors) c.args.none c.args.layers.now (length c.args.layers.now - 1) c.index-layers-layers.result
    (last-place (length c.args.layers.now) c.if-is_empty.ensures)))
