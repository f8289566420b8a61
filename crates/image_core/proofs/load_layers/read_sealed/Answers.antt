use Rattle.std.proofs.Common.{◌≡◌, ◌∙◌, IsTrue, subst}
use Rattle.std.specs.Prelude.{IfOk, IfErr, OnOk, IsErrOf}
use Rattle.sector_extent.specs.Causes.{Charges}
use Rattle.sector_extent.specs.CauseLaws.{calm_value}
use Rattle.block_disk.specs.Changes.{Only}
use Rattle.flat_image.specs.LayerFiles.{LayerOf}
use Rattle.sealed_layer.specs.LayerFaults.{IsLayerFault}
use Rattle.sealed_layer.specs.declared.fault.LayerFault.TheVariants as layer_fault
use Rattle.top_writer.proofs.QuietLaws.{quiet_joined}
use Rattle.image_core.proofs.SealedReads.{reads-more, stops-here}
use Rattle.image_core.proofs.load_layers.read_sealed.Goals as goal

pub returns-in_default-clause-quiet : goal.returns-in_default-clause-quiet
returns-in_default-clause-quiet g c =
    quiet_joined (g.D.Disk.state c.args.disk) (g.D.Disk.state c.loop-epoch.disk) (g.D.Disk.state c.read_layer_file-back.result.0) c.loop-epoch.invariant.0.quiet c.read_layer_file-back.ensures.quiet

pub returns-in-Err-clause-quiet : goal.returns-in-Err-clause-quiet
returns-in-Err-clause-quiet g c =
    quiet_joined (g.D.Disk.state c.args.disk) (g.D.Disk.state c.loop-epoch.disk) (g.D.Disk.state c.read_layer_file-back.result.0) c.loop-epoch.invariant.0.quiet c.read_layer_file-back.ensures.quiet

pub returns-in-Err-clause-reason : goal.returns-in-Err-clause-reason
returns-in-Err-clause-reason g c told =
    let old = g.D.Disk.state c.args.disk in
    let mid = g.D.Disk.state c.loop-epoch.disk in
    let reads = c.loop-epoch.invariant.0 in
    let bad = (subst (λ r. IfErr r (λ fault. IsTrue g.D.Disk.tells → IsLayerFault (mid.seen c.sealed_number.result) fault)) c.in-Err.is c.read_layer_file-back.ensures.fault) told in
    let here = stops-here g.D.Disk.tells old mid c.args.layers.items c.loop-epoch.layers.items c.loop-epoch.epoch reads told c.sealed_number.result c.sealed_number.ensures c.in-Err.fault bad in
    c.sealed_fault.ensures.stops old.seen c.args.count reads.sealed reads.number here.0 c.loop-epoch-test.true here.1

pub loop-epoch-preserved : goal.loop-epoch-preserved
loop-epoch-preserved g c =
    let old = g.D.Disk.state c.args.disk in
    let mid = g.D.Disk.state c.loop-epoch.disk in
    let new = g.D.Disk.state c.read_layer_file-back.result.0 in
    let call = c.read_layer_file-back.ensures in
    let found = subst (λ r. IfOk r (λ layer. IsTrue g.D.Disk.tells → LayerOf (mid.seen c.sealed_number.result) layer.head layer.rows)) c.in-Ok.is call.found in
    let only = subst (λ r. OnOk r (Only (mid.seen c.sealed_number.result) (new.may_leave c.sealed_number.result))) c.in-Ok.is call.durable in (
      reads-more g.D.Disk.tells old mid new c.args.layers.items c.loop-epoch.layers.items c.push.new.self.items c.loop-epoch.epoch c.sealed_number.result c.in-Ok.layer
          c.loop-epoch.invariant.0 call.quiet c.sealed_number.ensures found only c.in-Ok-push.ensures.items,
      calm_value g.D.Disk.faults c.loop-epoch.disk c.read_layer_file-back.result.0 c.in-Ok.layer layer_fault.Failed
          (subst (λ r. Charges g.D.Disk.faults c.loop-epoch.disk c.read_layer_file-back.result.0 (IsErrOf r layer_fault.Failed)) c.in-Ok.is call.cause)
          ∙ c.loop-epoch.invariant.1,
    )
