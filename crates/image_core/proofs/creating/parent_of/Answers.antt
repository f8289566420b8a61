use Rattle.std.proofs.Common.{◌-◌, length, ap, ◌∙◌}
use Rattle.lsmt_header.specs.declared.head.Head.{Head}
use Rattle.sealed_layer.specs.Layers.{LayerIndex}
use Rattle.image_core.proofs.Loaded.{last-place, upper-at}
use Rattle.image_core.proofs.creating.parent_of.Goals as goal

pub returns : goal.returns
returns c =
    ap (λ (h : Head). h.uuid) c.head.ensures
    ∙ (ap (λ (l : LayerIndex). l.head.uuid) c.index-lowers-lowers.is
    ∙ upper-at c.args.lowers.now (length c.args.lowers.now - 1) c.index-lowers-lowers.result (last-place (length c.args.lowers.now) c.if-is_empty.ensures))
