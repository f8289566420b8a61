use Rattle.std.proofs.Common.{◌≡◌, ◌<◌, refl, ◌∙◌, arith}
use Rattle.sector_extent.specs.CauseLaws.{calm_value, calm_ok}
use Rattle.image_core.specs.Seen.{Seen, seen, faults_in}
use Rattle.layer_commands.specs.declared.refusal.Refusal.TheVariants as refused
use Rattle.layer_commands.proofs.Charged.{stays_ok}
use Rattle.image_commands.proofs.CommitSteps.{adds-before, size-stopped, size-of-commit}
use Rattle.image_commands.proofs.committing.commit_kept.Goals as goal

pub returns-in-Ok-clause-adds : goal.returns-in-Ok-clause-adds
returns-in-Ok-clause-adds g c =
    adds-before _ (seen g.D.Disk c.args.image.now) (seen g.D.Disk c.commit_whole.new.image) (seen g.D.Disk c.sealed_length.new.self) c.in_ok-epoch.ensures.adds c.in-Ok.ensures.stands

pub returns-in-Ok-clause-size : goal.returns-in-Ok-clause-size
returns-in-Ok-clause-size g c =
    size-of-commit c.args.uuid (seen g.D.Disk c.args.image.now) (seen g.D.Disk c.commit_whole.new.image) c.in_ok-epoch.epoch c.in-Ok.size
    c.in_ok-epoch.ensures.adds c.in_ok-epoch.ensures.epoch c.in-Ok.ensures.length

pub returns-in-Ok-clause-cause : goal.returns-in-Ok-clause-cause
returns-in-Ok-clause-cause g c =
    stays_ok (faults_in g.D.Disk) c.args.image.now c.sealed_length.new.self _ refused.DiskFault
    (calm_ok (faults_in g.D.Disk) c.commit_whole.new.image c.sealed_length.new.self c.in-Ok.ensures.cause
    ∙ calm_value (faults_in g.D.Disk) c.args.image.now c.commit_whole.new.image c.in_ok-epoch.epoch refused.DiskFault c.in_ok-epoch.ensures.cause)

pub returns-in-Err-clause-refused : goal.returns-in-Err-clause-refused
returns-in-Err-clause-refused g c =
    let old : Seen = seen g.D.Disk c.args.image.now in
    let four : Seen = seen g.D.Disk c.commit_whole.new.image in
    let new : Seen = seen g.D.Disk c.sealed_length.new.self in
    let same : four.faults ≡ old.faults = calm_value (faults_in g.D.Disk) c.args.image.now c.commit_whole.new.image c.in_ok-epoch.epoch refused.DiskFault c.in_ok-epoch.ensures.cause in
    let last : four.faults < new.faults = c.in-Err.ensures.cause.failed refl in
    size-stopped c.args.uuid old four new c.in_ok-epoch.ensures.free c.in_ok-epoch.ensures.adds c.in-Err.ensures.stands (omega (arith, same, last))
