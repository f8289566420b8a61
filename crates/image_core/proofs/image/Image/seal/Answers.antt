use Rattle.std.proofs.Common.{◌≡◌, ℕ, ◌+◌, ◌<◌, ◌≤◌, false, true, List, [], ◌∷◌, ◌++◌, length, refl, sym, ap, ◌∙◌, subst, arith}
use Rattle.std.specs.Prelude.{Err, Ok, Some, None}
use Rattle.std.proofs.lemmas.Result.{err_from_is_err_and}
use Rattle.sector_extent.specs.CauseLaws.{calm_ok}
use Rattle.flat_image.specs.declared.act.Act.TheVariants.{Seal, Fault}
use Rattle.flat_image.specs.declared.act.Asked.TheVariants.{Uuid}
use Rattle.flat_image.specs.LayerFiles.{LayerOf}
use Rattle.layer_commit.specs.Sources.{AreWithin}
use Rattle.layer_commit.specs.View.{SealView, file_by}
use Rattle.top_writer.specs.Stands.{unchanged, as_before}
use Rattle.image_core.specs.declared.parts.Stack.{Stack}
use Rattle.image_core.specs.declared.commit.SealFault.TheVariants as seals
use Rattle.image_core.specs.Manifest.{IsWritten}
use Rattle.image_core.specs.Numbers.{manifest_file}
use Rattle.image_core.specs.Parts.{layer_in}
use Rattle.image_core.specs.Seen.{seen, with_disk, Goes}
use Rattle.image_core.proofs.CommitRefusals.{seal-unnoted, uuid-asked, pieces-written}
use Rattle.image_core.proofs.Copies.{put-back}
use Rattle.image_core.proofs.FaultCounts.{stays, value_no_fault}
use Rattle.image_core.proofs.Formats.{set-format}
use Rattle.image_core.proofs.Seals.{seal-failed, seal-done}
use Rattle.image_core.proofs.StandFacts.{image-few, image-done, image-room, image-manifest}
use Rattle.image_core.proofs.StepGoes.{goes-unnoted, goes-noted, quiet-goes, counts-fault, keeps-before}
use Rattle.image_core.proofs.image.Image.seal.Goals as goal

pub returns-in_err-check_seal-clause-goes : goal.returns-in_err-check_seal-clause-goes
returns-in_err-check_seal-clause-goes g c =
    let p = err_from_is_err_and c.from_residual.result c.from_residual.ensures.1 in
    rw (p.1, p.2) (goes-unnoted (seen g.D.Disk c.args.self.now) _ (λ files left. g.met.D.Disk.now_at c.args.self.now.disk files left) (seal-unnoted ℕ c.args.uuid c.in_err-check_seal.field-0.0 (λ e. c.in_err-check_seal.ensures.failed (ap (λ f. Err f) e))))

pub complete-requires : goal.complete-requires
complete-requires g c = record { done = (image-done (seen g.D.Disk c.args.self.now) c.in-Some.commit (sym c.take.ensures.value ∙ c.in-Some.is) c.requires.standing (pieces-written c.args.self.now.parts.stack.commit c.in-Some.commit (sym c.take.ensures.value ∙ c.in-Some.is) c.in_ok-check_seal.ensures.ok.1)) }

pub returns-in-Err-clause-goes : goal.returns-in-Err-clause-goes
returns-in-Err-clause-goes g c =
    goes-noted (seen g.D.Disk c.args.self.now) (with_disk g.D.Disk c.complete.new.disk (record c.args.self.now.parts { stack = record c.args.self.now.parts.stack { commit = Some (record { uuid = c.in-Some.commit.uuid; top = c.in-Some.commit.top; sealing = c.complete.new.self; snapshot = c.in-Some.commit.snapshot }) }; steps = c.args.self.now.parts.steps + 1 }))
    unchanged as_before (Fault (Uuid c.args.uuid)) (record { manifest = refl; stack = (put-back c.args.self.now.parts.stack c.in-Some.commit (record { uuid = c.in-Some.commit.uuid; top = c.in-Some.commit.top; sealing = c.complete.new.self; snapshot = c.in-Some.commit.snapshot }) (sym c.take.ensures.value ∙ c.in-Some.is) (λ i. record { uuid = c.in-Some.commit.uuid; top = c.in-Some.commit.top; sealing = c.complete.ensures.same i; snapshot = c.in-Some.commit.snapshot })) }) refl refl
    (quiet-goes g.D.Disk.tells (g.D.Disk.state c.args.self.now.disk) (g.D.Disk.state c.complete.new.disk) c.args.self.now.parts.top (λ files left. g.met.D.Disk.now_at c.args.self.now.disk files left) (λ files leaves. g.met.D.Disk.at_now c.args.self.now.disk files leaves) c.complete.ensures.quiet)
    refl (λ b. refl) (λ b is. tt)
    (counts-fault (g.D.Disk.faults c.args.self.now.disk) (g.D.Disk.faults c.complete.new.disk) (Uuid c.args.uuid) (omega (arith, c.in-Err.ensures.cause.failed refl)))
    (keeps-before (Fault (Uuid c.args.uuid)) refl)

pub count-count-requires : goal.count-count-requires
count-count-requires g c = omega (arith, image-few (seen g.D.Disk c.args.self.now) c.requires.standing)

pub put_sealed-epoch-requires-clause-room : goal.put_sealed-epoch-requires-clause-room
put_sealed-epoch-requires-clause-room g c = image-room (seen g.D.Disk c.args.self.now) c.in-Some.commit (sym c.take.ensures.value ∙ c.in-Some.is) c.requires.standing

pub put_sealed-epoch-requires-clause-few : goal.put_sealed-epoch-requires-clause-few
put_sealed-epoch-requires-clause-few g c = omega (arith, image-few (seen g.D.Disk c.args.self.now) c.requires.standing)

pub returns-in-Ok-set-clause-goes : goal.returns-in-Ok-set-clause-goes
returns-in-Ok-set-clause-goes g c =
    let put = c.put_sealed-epoch.ensures in
    let same = c.complete.ensures.same in
    seal-done g.D.Disk c.args.self.now.disk c.complete.new.disk c.args.self.now.parts c.in-Some.commit (sym c.take.ensures.value ∙ c.in-Some.is) (λ files left. g.met.D.Disk.now_at c.args.self.now.disk files left) (λ files leaves. g.met.D.Disk.at_now c.args.self.now.disk files leaves)
    c.complete.ensures.quiet (image-done (seen g.D.Disk c.args.self.now) c.in-Some.commit (sym c.take.ensures.value ∙ c.in-Some.is) c.requires.standing (pieces-written c.args.self.now.parts.stack.commit c.in-Some.commit (sym c.take.ensures.value ∙ c.in-Some.is) c.in_ok-check_seal.ensures.ok.1)) c.in-Ok.ensures.whole c.args.uuid c.plain_body-body.result
    (uuid-asked c.args.self.now.parts.stack.commit c.in-Some.commit c.args.uuid (sym c.take.ensures.value ∙ c.in-Some.is) c.in_ok-check_seal.ensures.ok.0) c.sectors.result c.sectors.ensures
    (subst (λ (k : ℕ). IsWritten c.plain_body-body.result (k + 1) None c.sectors.result) c.count-count.ensures c.plain_body-body.ensures)
    c.set.new.disk c.set.new.self c.set.ensures.kept c.set.ensures.any_moment
    c.put_sealed-epoch.new.self put.lowers (put.committed ∙ ap (λ (v : SealView). c.args.self.now.parts.stack.committed.items ++ layer_in v ∷ []) same) put.snapshot
    (put.commit ∙ c.take.ensures.after) put.next
    (λ stored within. subst (λ (v : SealView). LayerOf (file_by v stored) v.head v.rows) same (put.layer stored (subst (λ (v : SealView). AreWithin stored v.sources) (sym same) within)))
    c.in-Ok-set.ensures.ok c.in-Ok-set.ensures.ok_bodies (omega (arith, c.complete.ensures.cause.later, c.set.ensures.cause.later))

pub returns-in-Ok-set-clause-cause : goal.returns-in-Ok-set-clause-cause
returns-in-Ok-set-clause-cause g c =
    let count = g.D.Disk.faults in
    let same : count c.set.new.disk ≡ count c.args.self.now.disk =
    calm_ok count c.complete.new.disk c.set.new.disk c.in-Ok-set.ensures.cause ∙ calm_ok count c.args.self.now.disk c.complete.new.disk c.in-Ok.ensures.cause in
    record { later = omega (arith, same); failed = λ is. absurd (value_no_fault _ seals.Failed is); only = λ rose. absurd (omega (arith, same, rose)) }

pub returns-in-Err-set-clause-goes : goal.returns-in-Err-set-clause-goes
returns-in-Err-set-clause-goes g c =
    subst (λ (s : Stack). Goes (seen g.D.Disk c.args.self.now) (with_disk g.D.Disk c.set.new.disk (record c.args.self.now.parts { manifest = c.set.new.self; stack = s; steps = c.args.self.now.parts.steps + 1 }))
    (Some (Fault (Uuid c.args.uuid)))) (sym (put-back c.args.self.now.parts.stack c.in-Some.commit (record { uuid = c.in-Some.commit.uuid; top = c.in-Some.commit.top; sealing = c.complete.new.self; snapshot = c.in-Some.commit.snapshot }) (sym c.take.ensures.value ∙ c.in-Some.is) (λ i. record { uuid = c.in-Some.commit.uuid; top = c.in-Some.commit.top; sealing = c.complete.ensures.same i; snapshot = c.in-Some.commit.snapshot })))
    (seal-failed g.D.Disk c.args.self.now.disk c.complete.new.disk c.args.self.now.parts c.in-Some.commit (sym c.take.ensures.value ∙ c.in-Some.is) (λ files left. g.met.D.Disk.now_at c.args.self.now.disk files left) (λ files leaves. g.met.D.Disk.at_now c.args.self.now.disk files leaves)
    c.complete.ensures.quiet (image-done (seen g.D.Disk c.args.self.now) c.in-Some.commit (sym c.take.ensures.value ∙ c.in-Some.is) c.requires.standing (pieces-written c.args.self.now.parts.stack.commit c.in-Some.commit (sym c.take.ensures.value ∙ c.in-Some.is) c.in_ok-check_seal.ensures.ok.1)) c.in-Ok.ensures.whole c.args.uuid c.plain_body-body.result
    (uuid-asked c.args.self.now.parts.stack.commit c.in-Some.commit c.args.uuid (sym c.take.ensures.value ∙ c.in-Some.is) c.in_ok-check_seal.ensures.ok.0) c.sectors.result c.sectors.ensures
    (subst (λ (k : ℕ). IsWritten c.plain_body-body.result (k + 1) None c.sectors.result) c.count-count.ensures c.plain_body-body.ensures)
    c.set.new.disk c.set.new.self c.set.ensures.kept c.set.ensures.any_moment
    c.in-Err-set.ensures.err.0 c.in-Err-set.ensures.err_bodies (omega (arith, c.complete.ensures.cause.later, c.in-Err-set.ensures.cause.failed refl)))

pub returns-in-Ok-set-clause-format : goal.returns-in-Ok-set-clause-format
returns-in-Ok-set-clause-format g c =
    set-format g.D.Disk.tells (g.D.Disk.state c.set.new.disk) c.args.self.now.parts.manifest c.set.new.self c.plain_body-body.result (image-manifest (seen g.D.Disk c.args.self.now) c.requires.standing)
    c.in-Ok-set.ensures.ok c.plain_body-body.ensures.format c.set.ensures.now (g.met.D.Disk.seen_may_stay c.set.new.disk manifest_file)
