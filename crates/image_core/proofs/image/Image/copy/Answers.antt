use Rattle.std.proofs.Common.{◌≡◌, ℕ, ◌+◌, ◌<◌, ◌≤◌, false, true, List, refl, sym, ap, ◌∙◌, subst, arith}
use Rattle.std.specs.Prelude.{Err, Ok}
use Rattle.std.specs.Option.{option_map}
use Rattle.image_core.proofs.FaultCounts.{value_no_fault}
use Rattle.std.proofs.lemmas.Result.{err_from_is_err_and}
use Rattle.layer_commit.specs.Fitting.{with_done}
use Rattle.image_core.specs.Growing.{pending_in}
use Rattle.image_core.specs.Parts.{commit_view}
use Rattle.image_core.specs.Seen.{seen, view}
use Rattle.image_core.specs.declared.commit.CopyState.{CopyState}
use Rattle.image_core.proofs.CommitRefusals.{pending-same, copy-unnoted, copy-ok, copy-failing}
use Rattle.image_core.proofs.Copies.{with-own, none-more, copied-more, copy-done, copy-failed}
use Rattle.image_core.proofs.StandFacts.{image-sealing}
use Rattle.image_core.proofs.StepGoes.{goes-not, goes-unnoted}
use Rattle.image_core.proofs.image.Image.copy.Goals as goal

pub returns-in_err-check_copy-clause-goes : goal.returns-in_err-check_copy-clause-goes
returns-in_err-check_copy-clause-goes g c =
    let p = err_from_is_err_and c.from_residual.result c.from_residual.ensures.1 in
    rw (p.1, p.2) (goes-unnoted (seen g.D.Disk c.args.self.now) _ (λ files left. g.met.D.Disk.now_at c.args.self.now.disk files left) (copy-unnoted CopyState c.in_err-check_copy.field-0.0 (λ e. c.in_err-check_copy.ensures.failed (ap (λ f. Err f) e))))

pub copy_some-outcome-requires : goal.copy_some-outcome-requires
copy_some-outcome-requires g c = record { fits = image-sealing (seen g.D.Disk c.args.self.now) c.in-Some.commit (sym c.take.ensures.value ∙ c.in-Some.is) c.requires.standing }

pub returns-in-Ok-true-clause-goes : goal.returns-in-Ok-true-clause-goes
returns-in-Ok-true-clause-goes g c =
    copy-done g.D.Disk c.args.self.now.disk c.copy_some-outcome.new.disk c.args.self.now.parts c.in-Some.commit (record { uuid = c.in-Some.commit.uuid; top = c.in-Some.commit.top; sealing = c.copy_some-outcome.new.self; snapshot = c.in-Some.commit.snapshot }) (sym c.take.ensures.value ∙ c.in-Some.is)
    (record { uuid = refl; top = refl; snapshot = refl; sealing = with-own c.in-Some.commit.sealing c.copy_some-outcome.new.self _ c.in-Ok-true.ensures.ok })
    (λ files left. g.met.D.Disk.now_at c.args.self.now.disk files left) c.copy_some-outcome.ensures.fits c.copy_some-outcome.ensures.any_moment
    (λ all. (c.copy_some-outcome.ensures.none all, none-more c.in-Some.commit.sealing c.copy_some-outcome.new.self c.in-Ok-true.ensures.ok all))
    c.copy_some-outcome.ensures.cause.later

pub returns-in-Ok-true-clause-refused : goal.returns-in-Ok-true-clause-refused
returns-in-Ok-true-clause-refused g c = copy-ok (pending_in (view c.args.self.now)) c.args.uuid _ (pending-same c.args.self.now.parts.stack.commit ∙ c.in_ok-check_copy.ensures.ok)

pub returns-in-Ok-false-clause-goes : goal.returns-in-Ok-false-clause-goes
returns-in-Ok-false-clause-goes g c =
    copy-done g.D.Disk c.args.self.now.disk c.copy_some-outcome.new.disk c.args.self.now.parts c.in-Some.commit (record { uuid = c.in-Some.commit.uuid; top = c.in-Some.commit.top; sealing = c.copy_some-outcome.new.self; snapshot = c.in-Some.commit.snapshot }) (sym c.take.ensures.value ∙ c.in-Some.is)
    (record { uuid = refl; top = refl; snapshot = refl; sealing = with-own c.in-Some.commit.sealing c.copy_some-outcome.new.self _ c.in-Ok-false.ensures.ok })
    (λ files left. g.met.D.Disk.now_at c.args.self.now.disk files left) c.copy_some-outcome.ensures.fits c.copy_some-outcome.ensures.any_moment
    (λ all. (c.copy_some-outcome.ensures.none all, none-more c.in-Some.commit.sealing c.copy_some-outcome.new.self c.in-Ok-false.ensures.ok all))
    c.copy_some-outcome.ensures.cause.later

pub returns-in-Ok-false-clause-refused : goal.returns-in-Ok-false-clause-refused
returns-in-Ok-false-clause-refused g c = copy-ok (pending_in (view c.args.self.now)) c.args.uuid _ (pending-same c.args.self.now.parts.stack.commit ∙ c.in_ok-check_copy.ensures.ok)

pub returns-in-Ok-false-clause-copied : goal.returns-in-Ok-false-clause-copied
returns-in-Ok-false-clause-copied g c =
    let held = sym c.take.ensures.value ∙ c.in-Some.is in
    copied-more (option_map commit_view c.args.self.now.parts.stack.commit) c.in-Some.commit
    (record { uuid = c.in-Some.commit.uuid; top = c.in-Some.commit.top; sealing = c.copy_some-outcome.new.self; snapshot = c.in-Some.commit.snapshot })
    (ap (option_map commit_view) held) c.in-Ok-false.ensures.ok (image-sealing (seen g.D.Disk c.args.self.now) c.in-Some.commit held c.requires.standing).1.sound.done
    (λ all. absurd (let e : false ≡ true = sym c.in-Ok-false.field-0-test ∙ c.in-Ok-false.ensures.all.1 all in cc))

pub returns-in-Ok-false-clause-cause : goal.returns-in-Ok-false-clause-cause
returns-in-Ok-false-clause-cause g c = record {
  later = c.copy_some-outcome.ensures.cause.later;
  failed = λ is. absurd (value_no_fault _ _ is);
  only = λ rose. absurd (let e : false ≡ true = c.in-Ok-false.ensures.cause.only rose in cc);
}

pub returns-in-Err-clause-goes : goal.returns-in-Err-clause-goes
returns-in-Err-clause-goes g c =
    copy-failed g.D.Disk c.args.self.now.disk c.copy_some-outcome.new.disk c.args.self.now.parts c.in-Some.commit (record { uuid = c.in-Some.commit.uuid; top = c.in-Some.commit.top; sealing = c.copy_some-outcome.new.self; snapshot = c.in-Some.commit.snapshot }) (sym c.take.ensures.value ∙ c.in-Some.is)
    (record { uuid = refl; top = refl; snapshot = refl; sealing = c.in-Err.ensures.err ∙ ap (with_done c.in-Some.commit.sealing) (sym (ap (λ v. v.done) c.in-Err.ensures.err)) })
    (λ files left. g.met.D.Disk.now_at c.args.self.now.disk files left) c.copy_some-outcome.ensures.fits c.copy_some-outcome.ensures.any_moment
    (λ all. (c.copy_some-outcome.ensures.none all, c.in-Err.ensures.err))
    (omega (arith, c.in-Err.ensures.cause.failed refl))

pub returns-in-Err-clause-refused : goal.returns-in-Err-clause-refused
returns-in-Err-clause-refused g c = copy-failing (pending_in (view c.args.self.now)) c.args.uuid (pending-same c.args.self.now.parts.stack.commit ∙ c.in_ok-check_copy.ensures.ok)
