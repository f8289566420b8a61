use Rattle.std.proofs.Common.{◌≡◌, ◌+◌, ◌<◌, ◌≤◌, [], ◌∷◌, length, sym, ap, ◌∙◌, subst, arith}
use Rattle.std.specs.Prelude.{Err}
use Rattle.std.specs.Result.{IsErrOf}
use Rattle.std.proofs.lemmas.Result.{err_from_is_err_and}
use Rattle.flat_image.specs.declared.act.Act.TheVariants.{Seal}
use Rattle.sector_extent.specs.CauseLaws.{calm_value}
use Rattle.image_core.specs.Parts.{parts_view}
use Rattle.image_core.specs.Growing.{pending_in}
use Rattle.image_core.specs.Seen.{Seen, seen, faults_in}
use Rattle.layer_commands.specs.declared.refusal.Refusal.{Refusal}
use Rattle.layer_commands.specs.declared.refusal.Refusal.TheVariants as refused
use Rattle.layer_commands.proofs.Charged.{charges_on, no_fault}
use Rattle.image_commands.specs.Images.{commit_acts, entries}
use Rattle.image_commands.specs.ImageSteps.{Adds, CommitCause}
use Rattle.image_commands.proofs.Answered.{err-same, not-both, not-many, ok-from, value-from}
use Rattle.image_commands.proofs.CommitSteps.{committed-still, copy-stopped, seal-answered, sealed-all}
use Rattle.image_commands.proofs.committing.commit_whole.Goals as goal

pub returns-in_err-copy_whole-clause-refused : goal.returns-in_err-copy_whole-clause-refused
returns-in_err-copy_whole-clause-refused g c =
    let old : Seen = seen g.D.Disk c.args.image.now in
    let two : Seen = seen g.D.Disk c.freeze_own.new.image in
    let new : Seen = seen g.D.Disk c.copy_whole.new.image in
    let is = c.in_err-copy_whole.ensures.refused in
    let same : two.faults ≡ old.faults = calm_value (faults_in g.D.Disk) c.args.image.now c.freeze_own.new.image c.in_ok-freeze_own.field-0 refused.DiskFault c.in_ok-freeze_own.ensures.cause in
    let last : two.faults < new.faults = c.in_err-copy_whole.ensures.cause.failed (ap Err is) in
    let rose : old.faults < new.faults = omega (arith, same, last) in
    let p = err_from_is_err_and c.from_residual-in_err-copy_whole.result c.from_residual-in_err-copy_whole.ensures.1 in
    rw (p.1, p.2) (subst (λ (x : Refusal). CommitCause c.args.uuid old new x) (sym is)
    (copy-stopped c.args.uuid old two new new c.in_ok-freeze_own.ensures.free c.in_ok-freeze_own.ensures.adds c.in_err-copy_whole.ensures.failed rose))

pub returns-clause-refused : goal.returns-clause-refused
returns-clause-refused g c =
    let old : Seen = seen g.D.Disk c.args.image.now in
    let two : Seen = seen g.D.Disk c.freeze_own.new.image in
    let three : Seen = seen g.D.Disk c.copy_whole.new.image in
    let new : Seen = seen g.D.Disk c.seal_whole.new.image in
    let same : two.faults ≡ old.faults = calm_value (faults_in g.D.Disk) c.args.image.now c.freeze_own.new.image c.in_ok-freeze_own.field-0 refused.DiskFault c.in_ok-freeze_own.ensures.cause in
    let still : three.faults ≡ two.faults = calm_value (faults_in g.D.Disk) c.freeze_own.new.image c.copy_whole.new.image c.in_ok-copy_whole.field-0 refused.DiskFault c.in_ok-copy_whole.ensures.cause in
    seal-answered c.args.uuid old two three new c.in_ok-freeze_own.ensures.free c.in_ok-freeze_own.ensures.adds c.in_ok-copy_whole.ensures.same c.seal_whole.result
    c.seal_whole.ensures.refused c.seal_whole.ensures.failed (λ is. let last = c.seal_whole.ensures.cause.failed is in omega (arith, same, still, last))

pub returns-clause-adds : goal.returns-clause-adds
returns-clause-adds g c =
    let old : Seen = seen g.D.Disk c.args.image.now in
    let two : Seen = seen g.D.Disk c.freeze_own.new.image in
    let three : Seen = seen g.D.Disk c.copy_whole.new.image in
    let new : Seen = seen g.D.Disk c.seal_whole.new.image in
    ok-from c.seal_whole.result (Adds (entries (Seal c.args.uuid ∷ [])) three new) (Adds (entries (commit_acts c.args.uuid (pending_in (parts_view old.parts)))) old new)
    (λ sealed. sealed-all c.args.uuid old two three new c.in_ok-freeze_own.ensures.free c.in_ok-freeze_own.ensures.adds c.in_ok-copy_whole.ensures.same sealed) c.seal_whole.ensures.adds

pub returns-clause-epoch : goal.returns-clause-epoch
returns-clause-epoch g c =
    let old : Seen = seen g.D.Disk c.args.image.now in
    let two : Seen = seen g.D.Disk c.freeze_own.new.image in
    let three : Seen = seen g.D.Disk c.copy_whole.new.image in
    let new : Seen = seen g.D.Disk c.seal_whole.new.image in
    let same : length (parts_view three.parts).committed ≡ length (parts_view old.parts).committed =
    committed-still two three c.in_ok-copy_whole.ensures.same c.in_ok-freeze_own.ensures.standing ∙ c.in_ok-freeze_own.ensures.same in
    value-from c.seal_whole.result (λ epoch. epoch ≡ length (parts_view three.parts).committed) (λ epoch. epoch ≡ length (parts_view old.parts).committed)
    (λ epoch is. is ∙ same) c.seal_whole.ensures.epoch

pub returns-clause-stepped : goal.returns-clause-stepped
returns-clause-stepped g c =
    let old : Seen = seen g.D.Disk c.args.image.now in
    let two : Seen = seen g.D.Disk c.freeze_own.new.image in
    let three : Seen = seen g.D.Disk c.copy_whole.new.image in
    let new : Seen = seen g.D.Disk c.seal_whole.new.image in
    let one = c.in_ok-freeze_own.ensures.stepped in
    let still = c.in_ok-copy_whole.ensures.stepped in
    ok-from c.seal_whole.result ((parts_view new.parts).steps ≤ (parts_view three.parts).steps + 1) ((parts_view new.parts).steps ≤ (parts_view old.parts).steps + 2)
    (λ more. omega (arith, one, still, more)) c.seal_whole.ensures.stepped

pub returns-clause-cause : goal.returns-clause-cause
returns-clause-cause g c =
    let old : Seen = seen g.D.Disk c.args.image.now in
    let two : Seen = seen g.D.Disk c.freeze_own.new.image in
    let three : Seen = seen g.D.Disk c.copy_whole.new.image in
    let new : Seen = seen g.D.Disk c.seal_whole.new.image in
    let same : two.faults ≡ old.faults = calm_value (faults_in g.D.Disk) c.args.image.now c.freeze_own.new.image c.in_ok-freeze_own.field-0 refused.DiskFault c.in_ok-freeze_own.ensures.cause in
    let still : three.faults ≡ two.faults = calm_value (faults_in g.D.Disk) c.freeze_own.new.image c.copy_whole.new.image c.in_ok-copy_whole.field-0 refused.DiskFault c.in_ok-copy_whole.ensures.cause in
    charges_on (faults_in g.D.Disk) c.args.image.now c.copy_whole.new.image c.seal_whole.new.image (IsErrOf c.seal_whole.result refused.DiskFault) (still ∙ same) c.seal_whole.ensures.cause

pub returns-in_err-freeze_own-clause-many : goal.returns-in_err-freeze_own-clause-many
returns-in_err-freeze_own-clause-many g c none full =
    let p = err_from_is_err_and c.from_residual.result c.from_residual.ensures.1 in
    rw (p.1, p.2) (err-same c.in_err-freeze_own.field-0.0 refused.TooManyLayers (c.in_err-freeze_own.ensures.many none full))

pub returns-in_err-copy_whole-clause-many : goal.returns-in_err-copy_whole-clause-many
returns-in_err-copy_whole-clause-many g c none full =
    absurd (no_fault c.in_ok-freeze_own.field-0 refused.TooManyLayers (c.in_ok-freeze_own.ensures.many none full))

pub returns-clause-many : goal.returns-clause-many
returns-clause-many g c none full =
    absurd (no_fault c.in_ok-freeze_own.field-0 refused.TooManyLayers (c.in_ok-freeze_own.ensures.many none full))

pub returns-in_err-freeze_own-clause-still : goal.returns-in_err-freeze_own-clause-still
returns-in_err-freeze_own-clause-still g c =
    let p = err_from_is_err_and c.from_residual.result c.from_residual.ensures.1 in
    rw (p.1, p.2) (λ is. c.in_err-freeze_own.ensures.still (err-same c.in_err-freeze_own.field-0.0 refused.TooManyLayers is))

pub returns-in_err-copy_whole-clause-still : goal.returns-in_err-copy_whole-clause-still
returns-in_err-copy_whole-clause-still g c =
    let told = c.in_err-copy_whole.ensures.refused in
    let p = err_from_is_err_and c.from_residual-in_err-copy_whole.result c.from_residual-in_err-copy_whole.ensures.1 in
    rw (p.1, p.2) (λ is. absurd (not-both c.in_err-copy_whole.field-0.0 told is))

pub returns-clause-still : goal.returns-clause-still
returns-clause-still g c is = absurd (not-many c.seal_whole.result c.seal_whole.ensures.refused is)
