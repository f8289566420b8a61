use Rattle.std.proofs.Common.{◌≡◌, ℕ, List, [], subst}
use Rattle.std.specs.Prelude.{All, None, IfSome, IfOk, IfErr, IsTrue}
use Rattle.sealed_layer.specs.Layers.{LayerIndex, IsLayerIndex}
use Rattle.image_core.specs.Opening.{lowers_from}
use Rattle.image_core.specs.Loading.{IsLoadReason}
use Rattle.image_core.specs.Seen.{with_disk, IsLoaded}
use Rattle.image_core.specs.View.{AreLayersOf}
use Rattle.image_core.proofs.BlankLayers.{layers-from, opened}
use Rattle.image_core.proofs.Reopening.{reopens, reopens-as}
use Rattle.image_core.proofs.LoadedParts.{begun-view}
use Rattle.image_core.proofs.image.Image.load.Goals as goal

pub returns-in-Ok-clause-stands : goal.returns-in-Ok-clause-stands
returns-in-Ok-clause-stands g c =
    subst (λ r. IfOk r (λ parts. (files : List (List ℕ)) → AreLayersOf files c.args.lowers → IsLoaded (g.D.Disk.state c.args.disk) files (with_disk g.D.Disk c.load-disk.result.0 parts)))
    c.in-Ok.is c.load-disk.ensures.stands

pub returns-in-Ok-clause-starts : goal.returns-in-Ok-clause-starts
returns-in-Ok-clause-starts g c told are =
    let frame = subst (λ r. IfOk r (λ parts. (parts.stack.lowers ≡ c.args.lowers) × (parts.steps ≡ 0))) c.in-Ok.is c.load-disk.ensures.frame in
    opened (g.D.Disk.state c.args.disk) told c.args.lowers (with_disk g.D.Disk c.load-disk.result.0 c.in-Ok.parts) frame.0
    (returns-in-Ok-clause-stands g c (lowers_from told c.args.lowers)
    (layers-from told c.args.lowers (subst (All (λ (layer : LayerIndex). IsLayerIndex layer.head layer.rows)) c.as_slice.ensures c.layers_law.ensures) are))

pub returns-in-Ok-clause-standing : goal.returns-in-Ok-clause-standing
returns-in-Ok-clause-standing g c = let one = returns-in-Ok-clause-starts g c None tt in (one.base, [], one.stands)

pub returns-in-Ok-clause-complete : goal.returns-in-Ok-clause-complete
returns-in-Ok-clause-complete g c base shows low are told =
    reopens-as (g.D.Disk.state c.args.disk) (with_disk g.D.Disk c.load-disk.result.0 c.in-Ok.parts) base
    (returns-in-Ok-clause-stands g c base.lowers are) told shows

pub returns-in-Ok-clause-begun : goal.returns-in-Ok-clause-begun
returns-in-Ok-clause-begun g c =
    begun-view c.in-Ok.parts (subst (λ r. IfOk r (λ parts. IfSome parts.stack.commit (λ c. c.sealing.done ≡ 0))) c.in-Ok.is c.load-disk.ensures.begun)

pub returns-in-Err-clause-complete : goal.returns-in-Err-clause-complete
returns-in-Err-clause-complete g c base shows low are told =
    reopens (g.D.Disk.state c.args.disk).seen base c.args.lowers c.in-Err.fault shows low are
    ((subst (λ r. IfErr r (λ fault. IsTrue g.D.Disk.tells → IsLoadReason (g.D.Disk.state c.args.disk).seen c.args.lowers fault)) c.in-Err.is c.load-disk.ensures.reason) told)
