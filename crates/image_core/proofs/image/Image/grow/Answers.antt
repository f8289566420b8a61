use Rattle.std.proofs.Common.{◌≡◌, ℕ, ◌+◌, ◌∙◌, refl, sym, subst, arith}
use Rattle.std.specs.Prelude.{None}
use Rattle.image_core.specs.Growing.{pending_in}
use Rattle.image_core.specs.Manifest.{IsWritten}
use Rattle.image_core.specs.Numbers.{manifest_file}
use Rattle.image_core.proofs.CommitRefusals.{pending-same, grow-ok, grow-failing}
use Rattle.sector_extent.specs.CauseLaws.{calm_ok}
use Rattle.flat_image.specs.declared.act.Act.TheVariants.{Fault}
use Rattle.flat_image.specs.declared.act.Asked.TheVariants.{Sectors}
use Rattle.flat_image.specs.History.{now}
use Rattle.top_writer.specs.Stands.{unchanged, just_this, this_too}
use Rattle.image_core.specs.declared.growing.GrowFault.TheVariants as grows
use Rattle.image_core.specs.Seen.{Seen, seen, view, with_disk}
use Rattle.image_core.proofs.FaultCounts.{value_no_fault}
use Rattle.image_core.proofs.Formats.{set-format}
use Rattle.image_core.proofs.Grows.{none-pending, grow-failed, grow-done}
use Rattle.image_core.proofs.StandFacts.{image-few, image-manifest}
use Rattle.image_core.proofs.StepGoes.{IsSameBesides, fits-after, goes-not, goes-noted, counts-fault, keeps-unflushed}
use Rattle.image_core.proofs.image.Image.grow.Goals as goal

pub returns-then-sectors-own-clause-goes : goal.returns-then-sectors-own-clause-goes
returns-then-sectors-own-clause-goes g c = goes-not (seen g.D.Disk c.args.self.now) (λ files left. g.met.D.Disk.now_at c.args.self.now.disk files left)

pub returns-in-Err-clause-goes : goal.returns-in-Err-clause-goes
returns-in-Err-clause-goes g c =
    goes-noted (seen g.D.Disk c.args.self.now) (with_disk g.D.Disk c.flush.new.disk (record c.args.self.now.parts { top = c.flush.new.self; steps = c.args.self.now.parts.steps + 1 }))
    unchanged this_too (Fault (Sectors c.args.sectors)) (record { manifest = refl; stack = refl }) refl refl c.in-Err.ensures.err refl (λ b. refl) (λ b is. tt)
    (counts-fault (g.D.Disk.faults c.args.self.now.disk) (g.D.Disk.faults c.flush.new.disk) (Sectors c.args.sectors) (omega (arith, c.in-Err.ensures.cause.failed refl)))
    (keeps-unflushed (Sectors c.args.sectors))

pub set-requires-clause-kept : goal.set-requires-clause-kept
set-requires-clause-kept g c =
    let (base, history, k) = c.requires.standing in
    let x : Seen = seen g.D.Disk c.args.self.now in
    let y : Seen = with_disk g.D.Disk c.flush.new.disk (record c.args.self.now.parts { top = c.flush.new.self }) in
    (fits-after x y unchanged just_this (record { manifest = refl; stack = refl }) refl c.in-Ok.ensures.ok (now base history) k.tops k.attempts k.fits).manifest

pub returns-in-Ok-set-clause-goes : goal.returns-in-Ok-set-clause-goes
returns-in-Ok-set-clause-goes g c =
    let x : Seen = seen g.D.Disk c.args.self.now in
    let y : Seen = with_disk g.D.Disk c.flush.new.disk (record c.args.self.now.parts { top = c.flush.new.self }) in
    let z : Seen = with_disk g.D.Disk c.set.new.disk (record c.args.self.now.parts { manifest = c.set.new.self; stack = c.grow-in-Ok-set.new.self; top = c.grow.new.self; steps = c.args.self.now.parts.steps + 1 }) in
    grow-done x y (record { manifest = refl; stack = refl }) refl c.in-Ok.ensures.ok (none-pending c.args.self.now.parts.stack.commit c.pending.result c.in_default.is c.pending.ensures) c.args.sectors c.plain_body-body.result (subst (λ (k : ℕ). IsWritten c.plain_body-body.result k None c.args.sectors) c.count-count.ensures c.plain_body-body.ensures)
    (omega (arith, c.sectors-own.ensures, c.if-sectors-own.false)) c.requires.few z refl refl c.set.ensures.any_moment c.set.ensures.kept
    c.in-Ok-set.ensures.ok c.in-Ok-set.ensures.ok_bodies c.grow.ensures c.grow-in-Ok-set.ensures (omega (arith, c.flush.ensures.cause.later, c.set.ensures.cause.later))

pub returns-in-Ok-set-clause-cause : goal.returns-in-Ok-set-clause-cause
returns-in-Ok-set-clause-cause g c =
    let count = g.D.Disk.faults in
    let same : count c.set.new.disk ≡ count c.args.self.now.disk =
    calm_ok count c.flush.new.disk c.set.new.disk c.in-Ok-set.ensures.cause ∙ calm_ok count c.args.self.now.disk c.flush.new.disk c.in-Ok.ensures.cause in
    record { later = omega (arith, same); failed = λ is. absurd (value_no_fault tt grows.Failed is); only = λ rose. absurd (omega (arith, same, rose)) }

pub returns-in-Err-set-clause-goes : goal.returns-in-Err-set-clause-goes
returns-in-Err-set-clause-goes g c =
    let x : Seen = seen g.D.Disk c.args.self.now in
    let y : Seen = with_disk g.D.Disk c.flush.new.disk (record c.args.self.now.parts { top = c.flush.new.self }) in
    let z : Seen = with_disk g.D.Disk c.set.new.disk (record c.args.self.now.parts { manifest = c.set.new.self; top = c.flush.new.self; steps = c.args.self.now.parts.steps + 1 }) in
    grow-failed x y (record { manifest = refl; stack = refl }) refl c.in-Ok.ensures.ok (none-pending c.args.self.now.parts.stack.commit c.pending.result c.in_default.is c.pending.ensures) c.args.sectors c.plain_body-body.result (subst (λ (k : ℕ). IsWritten c.plain_body-body.result k None c.args.sectors) c.count-count.ensures c.plain_body-body.ensures)
    (omega (arith, c.sectors-own.ensures, c.if-sectors-own.false)) c.requires.few z refl refl c.set.ensures.any_moment c.set.ensures.kept
    refl c.in-Err-set.ensures.err.0 c.in-Err-set.ensures.err_bodies (omega (arith, c.flush.ensures.cause.later, c.in-Err-set.ensures.cause.failed refl))

pub returns-in-Some-clause-goes : goal.returns-in-Some-clause-goes
returns-in-Some-clause-goes g c = goes-not (seen g.D.Disk c.args.self.now) (λ files left. g.met.D.Disk.now_at c.args.self.now.disk files left)

pub returns-in-Err-clause-refused : goal.returns-in-Err-clause-refused
returns-in-Err-clause-refused g c = grow-failing (pending_in (view c.args.self.now)) (view c.args.self.now).sectors c.args.sectors (pending-same c.args.self.now.parts.stack.commit ∙ (sym c.pending.ensures ∙ c.in_default.is)) (omega (arith, c.sectors-own.ensures, c.if-sectors-own.false))

pub count-count-requires : goal.count-count-requires
count-count-requires g c = omega (arith, image-few (seen g.D.Disk c.args.self.now) c.requires.standing)

pub returns-in-Ok-set-clause-refused : goal.returns-in-Ok-set-clause-refused
returns-in-Ok-set-clause-refused g c = grow-ok (pending_in (view c.args.self.now)) (view c.args.self.now).sectors c.args.sectors (pending-same c.args.self.now.parts.stack.commit ∙ (sym c.pending.ensures ∙ c.in_default.is)) (omega (arith, c.sectors-own.ensures, c.if-sectors-own.false)) tt

pub returns-in-Err-set-clause-refused : goal.returns-in-Err-set-clause-refused
returns-in-Err-set-clause-refused g c = grow-failing (pending_in (view c.args.self.now)) (view c.args.self.now).sectors c.args.sectors (pending-same c.args.self.now.parts.stack.commit ∙ (sym c.pending.ensures ∙ c.in_default.is)) (omega (arith, c.sectors-own.ensures, c.if-sectors-own.false))

pub returns-in-Ok-set-clause-format : goal.returns-in-Ok-set-clause-format
returns-in-Ok-set-clause-format g c =
    set-format g.D.Disk.tells (g.D.Disk.state c.set.new.disk) c.args.self.now.parts.manifest c.set.new.self c.plain_body-body.result (image-manifest (seen g.D.Disk c.args.self.now) c.requires.standing)
    c.in-Ok-set.ensures.ok c.plain_body-body.ensures.format c.set.ensures.now (g.met.D.Disk.seen_may_stay c.set.new.disk manifest_file)
