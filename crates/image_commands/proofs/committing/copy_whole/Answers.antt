use Rattle.std.proofs.Common.{◌-◌, ◌<◌, [], refl, ◌∙◌, arith}
use Rattle.std.proofs.lemmas.Result.{err_from_is_err_and}
use Rattle.image_core.specs.Committing.{done_of, total_of}
use Rattle.image_core.specs.Seen.{Seen, seen, view, faults_in}
use Rattle.layer_commands.specs.declared.refusal.Refusal.TheVariants as refused
use Rattle.layer_commands.proofs.Charged.{charges_err, stays_ok}
use Rattle.sector_extent.specs.CauseLaws.{calm_value}
use Rattle.image_commands.specs.ImageSteps.{fault}
use Rattle.image_commands.proofs.ImageAdds.{adds-joined}
use Rattle.image_commands.proofs.CommitSteps.{adds-still, before-joined}
use Rattle.image_commands.proofs.committing.copy_whole.Goals as goal

pub loop-init : goal.loop-init
loop-init g c = record {
  standing = c.requires.standing;
  same = λ base history stands. stands;
  pending = c.requires.pending;
  steps = refl;
  faults = refl;
}

pub copy_next-requires-clause-standing : goal.copy_next-requires-clause-standing
copy_next-requires-clause-standing g c = c.loop.invariant.standing

pub copy_next-requires-clause-pending : goal.copy_next-requires-clause-pending
copy_next-requires-clause-pending g c = c.loop.invariant.pending

pub copy_next-requires-clause-steps : goal.copy_next-requires-clause-steps
copy_next-requires-clause-steps g c = let same = c.loop.invariant.steps in let few = c.requires.steps in omega (arith, same, few)

pub returns-in_err-copy_next-clause-failed : goal.returns-in_err-copy_next-clause-failed
returns-in_err-copy_next-clause-failed g c =
    let old : Seen = seen g.D.Disk c.args.image.now in
    let mid : Seen = seen g.D.Disk c.loop.image in
    let new : Seen = seen g.D.Disk c.copy_next.new.image in
    let p = err_from_is_err_and c.from_residual.result c.from_residual.ensures.1 in
    rw p.1 (adds-joined [] fault old mid new (adds-still old mid c.loop.invariant.same c.requires.standing) c.in_err-copy_next.ensures.failed)

pub returns-in_err-copy_next-clause-cause : goal.returns-in_err-copy_next-clause-cause
returns-in_err-copy_next-clause-cause g c =
    let p = err_from_is_err_and c.from_residual.result c.from_residual.ensures.1 in
    rw (p.1, p.2) (charges_err (faults_in g.D.Disk) c.args.image.now c.loop.image c.copy_next.new.image c.in_err-copy_next.field-0.0 refused.DiskFault c.loop.invariant.faults c.in_err-copy_next.ensures.cause)

pub loop-smaller : goal.loop-smaller
loop-smaller g c =
    let done = c.in_ok-copy_next.ensures in
    let more = done.more c.if-branch.true in
    let total = done.total in
    let smaller : total_of (view c.copy_next.new.image).commit - done_of (view c.copy_next.new.image).commit < total_of (view c.loop.image).commit - done_of (view c.loop.image).commit
    = omega (arith, more.0, more.1, total) in
    smaller

pub loop-preserved : goal.loop-preserved
loop-preserved g c =
    let done = c.in_ok-copy_next.ensures in
    record {
      standing = done.standing;
      same = before-joined (seen g.D.Disk c.args.image.now) (seen g.D.Disk c.loop.image) (seen g.D.Disk c.copy_next.new.image) c.loop.invariant.same done.same;
      pending = done.pending;
      steps = done.stepped ∙ c.loop.invariant.steps;
      faults = calm_value (faults_in g.D.Disk) c.loop.image c.copy_next.new.image c.in_ok-copy_next.field-0 refused.DiskFault done.cause ∙ c.loop.invariant.faults;
    }

pub returns-clause-same : goal.returns-clause-same
returns-clause-same g c =
    before-joined (seen g.D.Disk c.args.image.now) (seen g.D.Disk c.loop.image) (seen g.D.Disk c.copy_next.new.image) c.loop.invariant.same c.in_ok-copy_next.ensures.same

pub returns-clause-stepped : goal.returns-clause-stepped
returns-clause-stepped g c = c.in_ok-copy_next.ensures.stepped ∙ c.loop.invariant.steps

pub returns-clause-cause : goal.returns-clause-cause
returns-clause-cause g c =
    stays_ok (faults_in g.D.Disk) c.args.image.now c.copy_next.new.image tt refused.DiskFault
    (calm_value (faults_in g.D.Disk) c.loop.image c.copy_next.new.image c.in_ok-copy_next.field-0 refused.DiskFault c.in_ok-copy_next.ensures.cause ∙ c.loop.invariant.faults)
