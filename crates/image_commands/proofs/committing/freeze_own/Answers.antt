use Rattle.std.proofs.Common.{◌≡◌, ◌≢◌, ◌+◌, ◌≤◌, length, sym, ap, ◌∙◌, subst, arith}
use Rattle.std.specs.Prelude.{Some}
use Rattle.std.specs.Result.{IsErrOf}
use Rattle.top_writer.proofs.QuietLaws.{quiet_none}
use Rattle.image_core.specs.declared.commit.FreezeFault.{FreezeFault}
use Rattle.image_core.specs.declared.commit.FreezeFault.TheVariants as freeze
use Rattle.image_core.specs.Growing.{pending_in}
use Rattle.image_core.specs.Committing.{noted_freeze, uuids_in, IsRefusedFreeze}
use Rattle.image_core.specs.Parts.{parts_view}
use Rattle.image_core.specs.Seen.{Seen, Goes, IsImage, faults_in}
use Rattle.flat_image.specs.declared.act.Act.TheVariants as act
use Rattle.layer_commands.specs.declared.refusal.Refusal.{Refusal}
use Rattle.layer_commands.specs.declared.refusal.Refusal.TheVariants as refused
use Rattle.layer_commands.proofs.Charged.{charges_as}
use Rattle.image_commands.specs.Images.{IsFree, entries, freeze_acts}
use Rattle.image_commands.specs.ImageSteps.{Adds, CommitCause, freeze_refused_as}
use Rattle.image_commands.proofs.Answered.{ok-from, err-both}
use Rattle.image_commands.proofs.ChangeLaws.{standing-then, steps-then}
use Rattle.image_commands.proofs.CommitSteps as steps
use Rattle.image_commands.proofs.committing.freeze_own.Goals as goal

pub returns-in-Ok-clause-free : goal.returns-in-Ok-clause-free
returns-in-Ok-clause-free g c =
    steps.freeze-free g.D.Disk.tells (g.D.Disk.state c.args.image.now.disk) (g.D.Disk.state c.freeze.new.self.disk) (g.D.Disk.faults c.args.image.now.disk) (g.D.Disk.faults c.freeze.new.self.disk)
    c.args.image.now.parts c.freeze.new.self.parts c.args.uuid c.in-Ok.ensures.goes c.in-Ok.ensures.refused c.requires.standing

pub returns-in-Ok-clause-adds : goal.returns-in-Ok-clause-adds
returns-in-Ok-clause-adds g c =
    steps.freeze-adds g.D.Disk.tells (g.D.Disk.state c.args.image.now.disk) (g.D.Disk.state c.freeze.new.self.disk) (g.D.Disk.faults c.args.image.now.disk) (g.D.Disk.faults c.freeze.new.self.disk)
    c.args.image.now.parts c.freeze.new.self.parts c.args.uuid c.in-Ok.ensures.goes c.in-Ok.ensures.refused c.requires.standing

pub returns-in-Ok-clause-pending : goal.returns-in-Ok-clause-pending
returns-in-Ok-clause-pending g c =
    steps.freeze-pending g.D.Disk.tells (g.D.Disk.state c.args.image.now.disk) (g.D.Disk.state c.freeze.new.self.disk) (g.D.Disk.faults c.args.image.now.disk) (g.D.Disk.faults c.freeze.new.self.disk)
    c.args.image.now.parts c.freeze.new.self.parts c.args.uuid c.in-Ok.ensures.goes c.in-Ok.ensures.refused c.requires.standing

pub returns-in-Ok-clause-same : goal.returns-in-Ok-clause-same
returns-in-Ok-clause-same g c =
    steps.freeze-committed g.D.Disk.tells (g.D.Disk.state c.args.image.now.disk) (g.D.Disk.state c.freeze.new.self.disk) (g.D.Disk.faults c.args.image.now.disk) (g.D.Disk.faults c.freeze.new.self.disk)
    c.args.image.now.parts c.freeze.new.self.parts c.args.uuid c.in-Ok.ensures.goes c.in-Ok.ensures.refused c.requires.standing

pub returns-in-Ok-clause-standing : goal.returns-in-Ok-clause-standing
returns-in-Ok-clause-standing g c =
    standing-then g.D.Disk.tells (g.D.Disk.state c.args.image.now.disk) (g.D.Disk.state c.freeze.new.self.disk) (g.D.Disk.faults c.args.image.now.disk) (g.D.Disk.faults c.freeze.new.self.disk)
    c.args.image.now.parts c.freeze.new.self.parts (act.Freeze c.args.uuid) c.in-Ok.ensures.goes c.requires.standing

pub returns-in-Ok-clause-stepped : goal.returns-in-Ok-clause-stepped
returns-in-Ok-clause-stepped g c =
    let e = steps-then g.D.Disk.tells (g.D.Disk.state c.args.image.now.disk) (g.D.Disk.state c.freeze.new.self.disk) (g.D.Disk.faults c.args.image.now.disk) (g.D.Disk.faults c.freeze.new.self.disk)
    c.args.image.now.parts c.freeze.new.self.parts (act.Freeze c.args.uuid) c.in-Ok.ensures.goes c.requires.standing in
    omega (arith, e)

pub returns-in-Err-clause-free : goal.returns-in-Err-clause-free
returns-in-Err-clause-free g c =
    let old : Seen = record { tells = g.D.Disk.tells; state = g.D.Disk.state c.args.image.now.disk; faults = g.D.Disk.faults c.args.image.now.disk; parts = c.args.image.now.parts } in
    let new : Seen = record { tells = g.D.Disk.tells; state = g.D.Disk.state c.freeze.new.self.disk; faults = g.D.Disk.faults c.freeze.new.self.disk; parts = c.freeze.new.self.parts } in
    ok-from c.freeze_refusal.result (c.in-Err.fault ≡ freeze.Busy c.args.uuid) (IsFree c.args.uuid (pending_in (parts_view old.parts)))
    (λ e. steps.own-free g.D.Disk.tells (g.D.Disk.state c.args.image.now.disk) (g.D.Disk.state c.freeze.new.self.disk) (g.D.Disk.faults c.args.image.now.disk) (g.D.Disk.faults c.freeze.new.self.disk)
    c.args.image.now.parts c.freeze.new.self.parts c.args.uuid (subst (λ (x : FreezeFault). Goes old new (noted_freeze c.args.uuid (steps.refuses x))) e c.in-Err.ensures.goes) (subst (λ (x : FreezeFault). IsRefusedFreeze (pending_in (parts_view old.parts)) (uuids_in (parts_view old.parts)) c.args.uuid (steps.refuses x)) e c.in-Err.ensures.refused)) c.freeze_refusal.ensures.own

pub returns-in-Err-clause-adds : goal.returns-in-Err-clause-adds
returns-in-Err-clause-adds g c =
    let old : Seen = record { tells = g.D.Disk.tells; state = g.D.Disk.state c.args.image.now.disk; faults = g.D.Disk.faults c.args.image.now.disk; parts = c.args.image.now.parts } in
    let new : Seen = record { tells = g.D.Disk.tells; state = g.D.Disk.state c.freeze.new.self.disk; faults = g.D.Disk.faults c.freeze.new.self.disk; parts = c.freeze.new.self.parts } in
    ok-from c.freeze_refusal.result (c.in-Err.fault ≡ freeze.Busy c.args.uuid) (Adds (entries (freeze_acts c.args.uuid (pending_in (parts_view old.parts)))) old new)
    (λ e. steps.own-adds g.D.Disk.tells (g.D.Disk.state c.args.image.now.disk) (g.D.Disk.state c.freeze.new.self.disk) (g.D.Disk.faults c.args.image.now.disk) (g.D.Disk.faults c.freeze.new.self.disk)
    c.args.image.now.parts c.freeze.new.self.parts c.args.uuid (subst (λ (x : FreezeFault). Goes old new (noted_freeze c.args.uuid (steps.refuses x))) e c.in-Err.ensures.goes) (subst (λ (x : FreezeFault). IsRefusedFreeze (pending_in (parts_view old.parts)) (uuids_in (parts_view old.parts)) c.args.uuid (steps.refuses x)) e c.in-Err.ensures.refused)) c.freeze_refusal.ensures.own

pub returns-in-Err-clause-pending : goal.returns-in-Err-clause-pending
returns-in-Err-clause-pending g c =
    let old : Seen = record { tells = g.D.Disk.tells; state = g.D.Disk.state c.args.image.now.disk; faults = g.D.Disk.faults c.args.image.now.disk; parts = c.args.image.now.parts } in
    let new : Seen = record { tells = g.D.Disk.tells; state = g.D.Disk.state c.freeze.new.self.disk; faults = g.D.Disk.faults c.freeze.new.self.disk; parts = c.freeze.new.self.parts } in
    ok-from c.freeze_refusal.result (c.in-Err.fault ≡ freeze.Busy c.args.uuid) (pending_in (parts_view new.parts) ≡ Some c.args.uuid)
    (λ e. steps.pending-still old new (steps.own-before g.D.Disk.tells (g.D.Disk.state c.args.image.now.disk) (g.D.Disk.state c.freeze.new.self.disk) (g.D.Disk.faults c.args.image.now.disk) (g.D.Disk.faults c.freeze.new.self.disk)
    c.args.image.now.parts c.freeze.new.self.parts c.args.uuid (subst (λ (x : FreezeFault). Goes old new (noted_freeze c.args.uuid (steps.refuses x))) e c.in-Err.ensures.goes) (subst (λ (x : FreezeFault). IsRefusedFreeze (pending_in (parts_view old.parts)) (uuids_in (parts_view old.parts)) c.args.uuid (steps.refuses x)) e c.in-Err.ensures.refused)) c.requires.standing ∙ steps.own-held g.D.Disk.tells (g.D.Disk.state c.args.image.now.disk) (g.D.Disk.state c.freeze.new.self.disk) (g.D.Disk.faults c.args.image.now.disk) (g.D.Disk.faults c.freeze.new.self.disk)
    c.args.image.now.parts c.freeze.new.self.parts c.args.uuid (subst (λ (x : FreezeFault). Goes old new (noted_freeze c.args.uuid (steps.refuses x))) e c.in-Err.ensures.goes) (subst (λ (x : FreezeFault). IsRefusedFreeze (pending_in (parts_view old.parts)) (uuids_in (parts_view old.parts)) c.args.uuid (steps.refuses x)) e c.in-Err.ensures.refused)) c.freeze_refusal.ensures.own

pub returns-in-Err-clause-standing : goal.returns-in-Err-clause-standing
returns-in-Err-clause-standing g c =
    let old : Seen = record { tells = g.D.Disk.tells; state = g.D.Disk.state c.args.image.now.disk; faults = g.D.Disk.faults c.args.image.now.disk; parts = c.args.image.now.parts } in
    let new : Seen = record { tells = g.D.Disk.tells; state = g.D.Disk.state c.freeze.new.self.disk; faults = g.D.Disk.faults c.freeze.new.self.disk; parts = c.freeze.new.self.parts } in
    ok-from c.freeze_refusal.result (c.in-Err.fault ≡ freeze.Busy c.args.uuid) (IsImage new)
    (λ e. steps.image-still old new (steps.own-before g.D.Disk.tells (g.D.Disk.state c.args.image.now.disk) (g.D.Disk.state c.freeze.new.self.disk) (g.D.Disk.faults c.args.image.now.disk) (g.D.Disk.faults c.freeze.new.self.disk)
    c.args.image.now.parts c.freeze.new.self.parts c.args.uuid (subst (λ (x : FreezeFault). Goes old new (noted_freeze c.args.uuid (steps.refuses x))) e c.in-Err.ensures.goes) (subst (λ (x : FreezeFault). IsRefusedFreeze (pending_in (parts_view old.parts)) (uuids_in (parts_view old.parts)) c.args.uuid (steps.refuses x)) e c.in-Err.ensures.refused)) c.requires.standing) c.freeze_refusal.ensures.own

pub returns-in-Err-clause-stepped : goal.returns-in-Err-clause-stepped
returns-in-Err-clause-stepped g c =
    let old : Seen = record { tells = g.D.Disk.tells; state = g.D.Disk.state c.args.image.now.disk; faults = g.D.Disk.faults c.args.image.now.disk; parts = c.args.image.now.parts } in
    let new : Seen = record { tells = g.D.Disk.tells; state = g.D.Disk.state c.freeze.new.self.disk; faults = g.D.Disk.faults c.freeze.new.self.disk; parts = c.freeze.new.self.parts } in
    ok-from c.freeze_refusal.result (c.in-Err.fault ≡ freeze.Busy c.args.uuid) ((parts_view new.parts).steps ≤ (parts_view old.parts).steps + 1)
    (λ e. let still = steps.steps-still old new (steps.own-before g.D.Disk.tells (g.D.Disk.state c.args.image.now.disk) (g.D.Disk.state c.freeze.new.self.disk) (g.D.Disk.faults c.args.image.now.disk) (g.D.Disk.faults c.freeze.new.self.disk)
    c.args.image.now.parts c.freeze.new.self.parts c.args.uuid (subst (λ (x : FreezeFault). Goes old new (noted_freeze c.args.uuid (steps.refuses x))) e c.in-Err.ensures.goes) (subst (λ (x : FreezeFault). IsRefusedFreeze (pending_in (parts_view old.parts)) (uuids_in (parts_view old.parts)) c.args.uuid (steps.refuses x)) e c.in-Err.ensures.refused)) c.requires.standing in omega (arith, still)) c.freeze_refusal.ensures.own

pub returns-in-Err-clause-same : goal.returns-in-Err-clause-same
returns-in-Err-clause-same g c =
    let old : Seen = record { tells = g.D.Disk.tells; state = g.D.Disk.state c.args.image.now.disk; faults = g.D.Disk.faults c.args.image.now.disk; parts = c.args.image.now.parts } in
    let new : Seen = record { tells = g.D.Disk.tells; state = g.D.Disk.state c.freeze.new.self.disk; faults = g.D.Disk.faults c.freeze.new.self.disk; parts = c.freeze.new.self.parts } in
    ok-from c.freeze_refusal.result (c.in-Err.fault ≡ freeze.Busy c.args.uuid) (length (parts_view new.parts).committed ≡ length (parts_view old.parts).committed)
    (λ e. steps.committed-still old new (steps.own-before g.D.Disk.tells (g.D.Disk.state c.args.image.now.disk) (g.D.Disk.state c.freeze.new.self.disk) (g.D.Disk.faults c.args.image.now.disk) (g.D.Disk.faults c.freeze.new.self.disk)
    c.args.image.now.parts c.freeze.new.self.parts c.args.uuid (subst (λ (x : FreezeFault). Goes old new (noted_freeze c.args.uuid (steps.refuses x))) e c.in-Err.ensures.goes) (subst (λ (x : FreezeFault). IsRefusedFreeze (pending_in (parts_view old.parts)) (uuids_in (parts_view old.parts)) c.args.uuid (steps.refuses x)) e c.in-Err.ensures.refused)) c.requires.standing) c.freeze_refusal.ensures.own

pub returns-in-Err-clause-refused : goal.returns-in-Err-clause-refused
returns-in-Err-clause-refused g c =
    let old : Seen = record { tells = g.D.Disk.tells; state = g.D.Disk.state c.args.image.now.disk; faults = g.D.Disk.faults c.args.image.now.disk; parts = c.args.image.now.parts } in
    let new : Seen = record { tells = g.D.Disk.tells; state = g.D.Disk.state c.freeze.new.self.disk; faults = g.D.Disk.faults c.freeze.new.self.disk; parts = c.freeze.new.self.parts } in
    err-both c.freeze_refusal.result (c.in-Err.fault ≢ freeze.Busy c.args.uuid) (λ refusal. refusal ≡ freeze_refused_as c.in-Err.fault) (λ refusal. CommitCause c.args.uuid old new refusal)
    (λ refusal unlike is. subst (λ (x : Refusal). CommitCause c.args.uuid old new x) (sym is)
    (steps.freeze-refused g.D.Disk.tells (g.D.Disk.state c.args.image.now.disk) (g.D.Disk.state c.freeze.new.self.disk) (g.D.Disk.faults c.args.image.now.disk) (g.D.Disk.faults c.freeze.new.self.disk)
    c.args.image.now.parts c.freeze.new.self.parts c.args.uuid c.in-Err.fault c.in-Err.ensures.goes c.in-Err.ensures.refused unlike
    (quiet_none (g.D.Disk.state c.args.image.now.disk) (λ files left. g.met.D.Disk.now_at c.args.image.now.disk files left))
    (λ other. ap g.D.Disk.state (c.in-Err.ensures.spared other)) c.in-Err.ensures.cause.failed)) c.freeze_refusal.ensures.other c.freeze_refusal.ensures.refused

pub returns-in-Err-clause-cause : goal.returns-in-Err-clause-cause
returns-in-Err-clause-cause g c =
    charges_as (faults_in g.D.Disk) c.args.image.now c.freeze.new.self (IsErrOf (steps.refuses c.in-Err.fault) freeze.Failed) (IsErrOf c.freeze_refusal.result refused.DiskFault)
    (steps.to-failed c.freeze_refusal.result c.in-Err.fault c.args.uuid c.freeze_refusal.ensures.own c.freeze_refusal.ensures.refused)
    (steps.from-failed c.freeze_refusal.result c.in-Err.fault c.freeze_refusal.ensures.refused) c.in-Err.ensures.cause

pub returns-in-Ok-clause-many : goal.returns-in-Ok-clause-many
returns-in-Ok-clause-many g c none full =
    absurd (steps.none-accepted (pending_in (parts_view c.args.image.now.parts)) (uuids_in (parts_view c.args.image.now.parts)) c.args.uuid none full c.in-Ok.ensures.refused)

pub returns-in-Err-clause-many : goal.returns-in-Err-clause-many
returns-in-Err-clause-many g c none full =
    steps.many-refused (pending_in (parts_view c.args.image.now.parts)) (uuids_in (parts_view c.args.image.now.parts)) c.args.uuid none full c.freeze_refusal.result c.in-Err.fault
    c.in-Err.ensures.refused c.freeze_refusal.ensures.own c.freeze_refusal.ensures.refused

pub returns-in-Err-clause-still : goal.returns-in-Err-clause-still
returns-in-Err-clause-still g c is =
    c.in-Err.ensures.same (λ failed. steps.many-spared c.freeze_refusal.result c.in-Err.fault c.freeze_refusal.ensures.refused is failed)
