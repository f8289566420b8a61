use Rattle.std.proofs.Common.{sym, ◌∙◌, arith}
use Rattle.image_core.proofs.Loaded.{heads-more}
use Rattle.image_core.proofs.load_layers.heads_of.Goals as goal

pub loop-layer-preserved : goal.loop-layer-preserved
loop-layer-preserved c =
    c.in_ok-push.ensures.items
    ∙ heads-more c.args.layers.now c.loop-layer.heads.items c.loop-layer.layer-index c.head.result.now c.layer-item.result (omega arith) (sym c.layer-item.is) c.head.ensures c.loop-layer.invariant
