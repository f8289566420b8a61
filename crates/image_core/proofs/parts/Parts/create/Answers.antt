use Rattle.std.proofs.Common.{[], ◌∙◌, subst, refl}
use Rattle.std.specs.Arc.{arc_value}
use Rattle.image_core.specs.Pieces.{IsSnapshotOf}
use Rattle.sector_extent.specs.CauseLaws.{calm_value, calm_ok}
use Rattle.image_core.specs.declared.creating.CreateFault.TheVariants as faults
use Rattle.top_writer.specs.declared.fault.TopMakeFault.TheVariants as makes
use Rattle.std.specs.Prelude.{Ok, IsErrOf}
use Rattle.image_core.proofs.Created.{created}
use Rattle.image_core.specs.Loading.{upper_uuid}
use Rattle.image_core.proofs.MadeLast.{last-looked, last-topped, last-of}
use Rattle.image_core.proofs.FaultCounts.{stays, value_no_fault}
use Rattle.image_core.proofs.parts.Parts.create.Goals as goal

pub returns-in-Ok-format-clause-stands : goal.returns-in-Ok-format-clause-stands
returns-in-Ok-format-clause-stands g c files are =
    created c.args.sectors files c.args.lowers (g.D.Disk.faults c.format.new.disk) c.requires.lowers c.requires.size are
    g.D.Disk.tells (g.D.Disk.state c.create.new.disk) (g.D.Disk.state c.format.new.disk)
    (record { manifest = c.in-Ok-format.manifest; stack = c.of.result; top = c.in-Ok-create.top; steps = 0 })
    c.parent_of-parent.result c.plain_body.result c.as_slice-2.result.now c.as_slice-2.ensures c.of.ensures refl
    c.parent_of-parent.ensures
    c.in-Ok-create.ensures.fits c.in-Ok-create.ensures.is.0 c.in-Ok-create.ensures.is.2
    c.format.ensures.any_moment.others c.in-Ok-format.ensures.mark.0 c.in-Ok-format.ensures.mark.1 c.in-Ok-format.ensures.kept c.in-Ok-format.ensures.bodies c.plain_body.ensures

pub returns-in-Ok-format-clause-cause : goal.returns-in-Ok-format-clause-cause
returns-in-Ok-format-clause-cause g c =
    let count = g.D.Disk.faults in
    stays count c.args.disk.now c.format.new.disk _
    (calm_ok count c.create.new.disk c.format.new.disk c.in-Ok-format.ensures.cause
    ∙ (calm_value count c.check_new.new.disk c.create.new.disk c.in-Ok-create.top makes.Failed c.in-Ok-create.ensures.cause
    ∙ calm_value count c.args.disk.now c.check_new.new.disk _ faults.Failed c.in_ok-check_new.ensures.cause))
    (value_no_fault _ _)

pub returns-in_err-check_new-clause-last : goal.returns-in_err-check_new-clause-last
returns-in_err-check_new-clause-last g c =
    last-looked c.args.sectors (upper_uuid c.args.lowers) (g.D.Disk.state c.args.disk.now) (g.D.Disk.state c.check_new.new.disk) c.check_new.ensures.quiet

pub returns-in_default-clause-last : goal.returns-in_default-clause-last
returns-in_default-clause-last g c =
    last-looked c.args.sectors (upper_uuid c.args.lowers) (g.D.Disk.state c.args.disk.now) (g.D.Disk.state c.check_new.new.disk) c.check_new.ensures.quiet

pub returns-in-Err-Failed-clause-last : goal.returns-in-Err-Failed-clause-last
returns-in-Err-Failed-clause-last g c =
    last-topped c.args.sectors (upper_uuid c.args.lowers) (g.D.Disk.state c.args.disk.now) (g.D.Disk.state c.check_new.new.disk) (g.D.Disk.state c.create.new.disk)
    c.check_new.ensures.quiet c.create.ensures.any_moment

pub returns-in-Ok-format-clause-last : goal.returns-in-Ok-format-clause-last
returns-in-Ok-format-clause-last g c =
    last-of g.D.Disk.tells c.args.sectors c.args.lowers c.as_slice-2.result.now c.parent_of-parent.result (g.D.Disk.state c.args.disk.now) (g.D.Disk.state c.check_new.new.disk)
    (g.D.Disk.state c.create.new.disk) (g.D.Disk.state c.format.new.disk) c.as_slice-2.ensures c.parent_of-parent.ensures c.check_new.ensures.quiet c.create.ensures.any_moment
    c.in-Ok-create.ensures.bytes c.in-Ok-create.ensures.index c.format.ensures.any_moment

pub returns-in-Err-clause-last : goal.returns-in-Err-clause-last
returns-in-Err-clause-last g c =
    last-of g.D.Disk.tells c.args.sectors c.args.lowers c.as_slice-2.result.now c.parent_of-parent.result (g.D.Disk.state c.args.disk.now) (g.D.Disk.state c.check_new.new.disk)
    (g.D.Disk.state c.create.new.disk) (g.D.Disk.state c.format.new.disk) c.as_slice-2.ensures c.parent_of-parent.ensures c.check_new.ensures.quiet c.create.ensures.any_moment
    c.in-Ok-create.ensures.bytes c.in-Ok-create.ensures.index c.format.ensures.any_moment
