use Rattle.std.proofs.Common.{◌≡◌, ◌∙◌, ℕ, ◌++◌, List, length, take, drop, IsTrue, sym, ap, subst}
use Rattle.std.specs.Prelude.{IfOk, IfErr, IfSome, IsErrOf}
use Rattle.sector_extent.specs.Causes.{Charges}
use Rattle.sector_extent.specs.CauseLaws.{calm_value}
use Rattle.sealed_layer.specs.Layers.{LayerIndex}
use Rattle.top_writer.proofs.QuietLaws.{quiet_joined, quiet_three}
use Rattle.image_core.specs.declared.loading.LoadFault.TheVariants as why
use Rattle.image_core.specs.declared.parts.Parts.{Parts}
use Rattle.image_core.specs.Loading.{IsLoadReason}
use Rattle.image_core.specs.Found.{IsManifest, AreRead, StopsSealed, ArePartsRead, IsPartsReason}
use Rattle.image_core.specs.Seen.{with_disk, IsLoaded}
use Rattle.image_core.specs.View.{AreLayersOf}
use Rattle.image_core.proofs.FaultCounts.{charges-after, ok-all, ok-both, err-all}
use Rattle.image_core.proofs.LoadedImage.{loaded}
use Rattle.image_core.proofs.LoadedParts.{cut-both}
use Rattle.image_core.proofs.LoadReasons.{sealed-reason, parts-reason}
use Rattle.image_core.proofs.parts.Parts.load.Goals as goal

pub returns-in-Err-clause-reason : goal.returns-in-Err-clause-reason
returns-in-Err-clause-reason g c =
    subst (λ (l : List LayerIndex). IsTrue g.D.Disk.tells → IsLoadReason (g.D.Disk.state c.args.disk).seen l c.in-Err.fault) c.as_slice.ensures c.in-Err.ensures.reason

pub returns-in-Err-layers-clause-reason : goal.returns-in-Err-layers-clause-reason
returns-in-Err-layers-clause-reason g c told =
    let old = g.D.Disk.state c.args.disk in
    let one = g.D.Disk.state c.open_manifest.new.disk in
    let m = subst (λ (l : List LayerIndex). IsManifest g.D.Disk.tells old one l c.in-Ok.found.0 c.in-Ok.found.1) c.as_slice.ensures c.in-Ok.ensures.found in
    let stops = (subst (λ r. IfErr r (λ fault. IsTrue g.D.Disk.tells → StopsSealed one.seen c.in-Ok.found.1.count fault)) c.in-Err-layers.is c.read_sealed-disk.ensures.reason) told in
    sealed-reason g.D.Disk.tells old one c.args.lowers c.in-Ok.found.0 c.in-Ok.found.1 c.open_manifest.ensures.quiet m told c.in-Err-layers.fault stops

pub returns-in-Err-layers-clause-quiet : goal.returns-in-Err-layers-clause-quiet
returns-in-Err-layers-clause-quiet g c =
    quiet_joined (g.D.Disk.state c.args.disk) (g.D.Disk.state c.open_manifest.new.disk) (g.D.Disk.state c.read_sealed-disk.result.0) c.open_manifest.ensures.quiet c.read_sealed-disk.ensures.quiet

pub returns-clause-quiet : goal.returns-clause-quiet
returns-clause-quiet g c =
    quiet_three (g.D.Disk.state c.args.disk) (g.D.Disk.state c.open_manifest.new.disk) (g.D.Disk.state c.read_sealed-disk.result.0) (g.D.Disk.state c.of_layers-parts.new.disk)
    c.open_manifest.ensures.quiet c.read_sealed-disk.ensures.quiet c.of_layers-parts.ensures.quiet

pub returns-clause-cause : goal.returns-clause-cause
returns-clause-cause g c =
    let count = g.D.Disk.faults in
    charges-after count c.args.disk c.read_sealed-disk.result.0 c.of_layers-parts.new.disk _
    (calm_value count c.open_manifest.new.disk c.read_sealed-disk.result.0 c.in-Ok-layers.layers why.Failed
    (subst (λ r. Charges count c.open_manifest.new.disk c.read_sealed-disk.result.0 (IsErrOf r why.Failed)) c.in-Ok-layers.is c.read_sealed-disk.ensures.cause)
    ∙ calm_value count c.args.disk c.open_manifest.new.disk c.in-Ok.found why.Failed c.in-Ok.ensures.cause)
    c.of_layers-parts.ensures.cause

pub returns-clause-stands : goal.returns-clause-stands
returns-clause-stands g c =
    let tells = g.D.Disk.tells in
    let old = g.D.Disk.state c.args.disk in
    let one = g.D.Disk.state c.open_manifest.new.disk in
    let two = g.D.Disk.state c.read_sealed-disk.result.0 in
    let new = g.D.Disk.state c.of_layers-parts.new.disk in
    let mark = c.in-Ok.found.0 in
    let named = c.in-Ok.found.1 in
    let items = c.in-Ok-layers.layers.items in
    let below = length c.as_slice-below.result.now in
    let m = subst (λ (l : List LayerIndex). IsManifest tells old one l mark named) c.as_slice.ensures c.in-Ok.ensures.found in
    let read = subst (λ r. IfOk r (λ all. (sealed : List LayerIndex) × (all.items ≡ c.into_vec.result.items ++ sealed) × (length sealed ≡ named.count) × AreRead tells one two sealed))
    c.in-Ok-layers.is c.read_sealed-disk.ensures.found in
    let cut = cut-both items c.args.lowers read.0 below (read.1 ∙ ap (λ (l : List LayerIndex). l ++ read.0) c.into_vec.ensures) (ap (length {A = LayerIndex}) c.as_slice-below.ensures) in
    ok-both c.of_layers-parts.result (λ parts. ArePartsRead tells two new named (take below items) (drop below items) parts) (λ parts. parts.manifest ≡ mark)
    (λ parts. (files : List (List ℕ)) → AreLayersOf files c.args.lowers → IsLoaded old files (with_disk g.D.Disk c.of_layers-parts.new.disk parts))
    (λ parts found manifest files are.
    loaded tells old one two new (g.D.Disk.faults c.of_layers-parts.new.disk) named mark c.args.lowers read.0 parts files
    c.open_manifest.ensures.quiet c.read_sealed-disk.ensures.quiet c.of_layers-parts.ensures.quiet (λ f x left. g.met.D.Disk.told c.of_layers-parts.new.disk f x left)
    m read.3 read.2
    (subst (λ (l : List LayerIndex). ArePartsRead tells two new named l read.0 parts) cut.0 (subst (λ (l : List LayerIndex). ArePartsRead tells two new named (take below items) l parts) cut.1 found))
    manifest are)
    c.of_layers-parts.ensures.read c.of_layers-parts.ensures.manifest

pub returns-clause-reason : goal.returns-clause-reason
returns-clause-reason g c =
    let tells = g.D.Disk.tells in
    let old = g.D.Disk.state c.args.disk in
    let one = g.D.Disk.state c.open_manifest.new.disk in
    let two = g.D.Disk.state c.read_sealed-disk.result.0 in
    let mark = c.in-Ok.found.0 in
    let named = c.in-Ok.found.1 in
    let items = c.in-Ok-layers.layers.items in
    let below = length c.as_slice-below.result.now in
    let m = subst (λ (l : List LayerIndex). IsManifest tells old one l mark named) c.as_slice.ensures c.in-Ok.ensures.found in
    let read = subst (λ r. IfOk r (λ all. (sealed : List LayerIndex) × (all.items ≡ c.into_vec.result.items ++ sealed) × (length sealed ≡ named.count) × AreRead tells one two sealed))
    c.in-Ok-layers.is c.read_sealed-disk.ensures.found in
    let cut = cut-both items c.args.lowers read.0 below (read.1 ∙ ap (λ (l : List LayerIndex). l ++ read.0) c.into_vec.ensures) (ap (length {A = LayerIndex}) c.as_slice-below.ensures) in
    err-all c.of_layers-parts.result (λ fault. IsTrue tells → IsPartsReason two.seen named (take below items) (drop below items) fault)
    (λ fault. IsTrue tells → IsLoadReason old.seen c.args.lowers fault)
    (λ fault bad told.
    parts-reason tells old one c.args.lowers mark named c.open_manifest.ensures.quiet m told two c.read_sealed-disk.ensures.quiet read.0 read.3 read.2 fault
    (subst (λ (l : List LayerIndex). IsPartsReason two.seen named l read.0 fault) cut.0
    (subst (λ (l : List LayerIndex). IsPartsReason two.seen named (take below items) l fault) cut.1 (bad told))))
    c.of_layers-parts.ensures.reason

pub returns-clause-begun : goal.returns-clause-begun
returns-clause-begun g c =
    let items = c.in-Ok-layers.layers.items in
    let below = length c.as_slice-below.result.now in
    ok-all c.of_layers-parts.result
    (λ parts. ArePartsRead g.D.Disk.tells (g.D.Disk.state c.read_sealed-disk.result.0) (g.D.Disk.state c.of_layers-parts.new.disk) c.in-Ok.found.1 (take below items) (drop below items) parts)
    (λ parts. IfSome parts.stack.commit (λ c. c.sealing.done ≡ 0)) (λ parts read. read.commit.begun) c.of_layers-parts.ensures.read
