use Rattle.std.proofs.Common.{[], subst}
use Rattle.std.specs.Prelude.{All, None}
use Rattle.sealed_layer.specs.Layers.{LayerIndex, IsLayerIndex}
use Rattle.image_core.specs.Opening.{blank_layers, lowers_from}
use Rattle.image_core.specs.Creating.{fresh_at}
use Rattle.image_core.proofs.BlankLayers.{layers-from}
use Rattle.image_core.proofs.image.Image.create.Goals as goal

pub returns-in-Ok-clause-starts : goal.returns-in-Ok-clause-starts
returns-in-Ok-clause-starts g c told are =
    c.in-Ok.ensures.stands (lowers_from told c.args.lowers)
    (layers-from told c.args.lowers (subst (All (λ (layer : LayerIndex). IsLayerIndex layer.head layer.rows)) c.as_slice.ensures c.layers_law.ensures) are)

pub returns-in-Ok-clause-standing : goal.returns-in-Ok-clause-standing
returns-in-Ok-clause-standing g c =
    (fresh_at c.args.sectors (blank_layers c.args.lowers) (g.D.Disk.faults c.create.new.disk), [], returns-in-Ok-clause-starts g c None tt)
