use Rattle.std.proofs.Common.{◌≡◌, ◌∙◌, ◌≤◌, List, length, take, drop, refl, subst, arith}
use Rattle.std.specs.Prelude.{All}
use Rattle.std.proofs.lemmas.Result.{err_from_is_err_and}
use Rattle.sector_extent.specs.CauseLaws.{calm_value}
use Rattle.sealed_layer.specs.Layers.{LayerIndex, IsLayerIndex}
use Rattle.top_writer.proofs.QuietLaws.{quiet_joined}
use Rattle.image_core.specs.declared.loading.LoadFault.TheVariants as why
use Rattle.image_core.specs.Found.{AreSound}
use Rattle.image_core.proofs.FaultCounts.{stays, charges-after, charges-as, value_no_fault}
use Rattle.image_core.proofs.PartsRead.{parts-read, current-refused, frozen-refused}
use Rattle.image_core.proofs.parts.Parts.of_layers.Goals as goal

pub returns-in_err-top-clause-quiet : goal.returns-in_err-top-clause-quiet
returns-in_err-top-clause-quiet g c =
    quiet_joined (g.D.Disk.state c.args.disk.now) (g.D.Disk.state c.load_commit.new.disk) (g.D.Disk.state c.load_top.new.disk) c.load_commit.ensures.quiet c.load_top.ensures.quiet

pub returns-clause-quiet : goal.returns-clause-quiet
returns-clause-quiet g c =
    quiet_joined (g.D.Disk.state c.args.disk.now) (g.D.Disk.state c.load_commit.new.disk) (g.D.Disk.state c.load_top.new.disk) c.load_commit.ensures.quiet c.load_top.ensures.quiet

pub returns-in_err-top-clause-cause : goal.returns-in_err-top-clause-cause
returns-in_err-top-clause-cause g c =
    let count = g.D.Disk.faults in
    let p = err_from_is_err_and c.from_residual-in_err-top.result c.from_residual-in_err-top.ensures.1 in
    rw (p.1, p.2)
    (charges-after count c.args.disk.now c.load_commit.new.disk c.load_top.new.disk _
    (calm_value count c.args.disk.now c.load_commit.new.disk c.in_ok-stack.stack why.Failed c.in_ok-stack.ensures.cause)
    (charges-as count c.load_commit.new.disk c.load_top.new.disk c.in_err-top.field-0.0 why.Failed c.in_err-top.ensures.cause))

pub returns-clause-cause : goal.returns-clause-cause
returns-clause-cause g c =
    let count = g.D.Disk.faults in
    stays count c.args.disk.now c.load_top.new.disk _
    (calm_value count c.load_commit.new.disk c.load_top.new.disk c.in_ok-top.top why.Failed c.in_ok-top.ensures.cause
    ∙ calm_value count c.args.disk.now c.load_commit.new.disk c.in_ok-stack.stack why.Failed c.in_ok-stack.ensures.cause)
    (value_no_fault _ _)

pub returns-clause-read : goal.returns-clause-read
returns-clause-read g c =
    let items = c.args.layers.items in
    let below = c.args.below in
    let sound = subst (λ (l : List LayerIndex). AreSound c.args.named (take below l) (drop below l)) c.as_slice-2.ensures.value c.in_ok-check_layers.ensures.ok in
    let all = subst (λ (l : List LayerIndex). All (λ layer. IsLayerIndex layer.head layer.rows) l) c.as_slice.ensures.value c.layers_law.ensures in
    let commit = c.in_ok-stack.ensures.read in
    let top = c.in_ok-top.ensures.top in
    parts-read c.args.named items below (omega (arith, c.requires.count)) sound c.in-Ok.stack c.in-Ok.ensures g.D.Disk.tells (g.D.Disk.state c.args.disk.now) (g.D.Disk.state c.load_commit.new.disk)
    c.load_commit.ensures.quiet c.in_ok-stack.stack commit.0 commit.1 c.with_pending-epoch.result c.with_pending-epoch.ensures c.as_slice-3.result.now c.as_slice-3.ensures
    (g.D.Disk.state c.load_top.new.disk) c.in_ok-top.top top.0
    (record { manifest = c.args.manifest; stack = c.in_ok-stack.stack; top = c.in_ok-top.top; steps = 0 }) all c.load_top.ensures.quiet top.1 refl refl refl

pub returns-in_err-top-clause-reason : goal.returns-in_err-top-clause-reason
returns-in_err-top-clause-reason g c =
    let items = c.args.layers.items in
    let below = c.args.below in
    let sound = subst (λ (l : List LayerIndex). AreSound c.args.named (take below l) (drop below l)) c.as_slice-2.ensures.value c.in_ok-check_layers.ensures.ok in
    let commit = c.in_ok-stack.ensures.read in
    let p = err_from_is_err_and c.from_residual-in_err-top.result c.from_residual-in_err-top.ensures.1 in
    rw (p.1, p.2)
    (λ told.
    current-refused c.args.named items below (omega (arith, c.requires.count)) sound c.in-Ok.stack c.in-Ok.ensures g.D.Disk.tells (g.D.Disk.state c.args.disk.now) (g.D.Disk.state c.load_commit.new.disk)
    c.load_commit.ensures.quiet c.in_ok-stack.stack commit.0 commit.1 c.with_pending-epoch.result c.with_pending-epoch.ensures c.as_slice-3.result.now c.as_slice-3.ensures told c.requires.count
    c.in_err-top.field-0.0 (c.in_err-top.ensures.reason told))
