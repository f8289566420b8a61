use Rattle.std.proofs.Common.{◌+◌, ap, arith}
use Rattle.std.specs.Prelude.{Err}
use Rattle.flat_image.specs.History.{now}
use Rattle.flat_image.proofs.HistoryLaws.{base-stays}
use Rattle.top_writer.proofs.QuietLaws.{quiet_none}
use Rattle.image_core.specs.Seen.{seen}
use Rattle.image_core.proofs.StandFacts.{image-fits}
use Rattle.image_core.proofs.StepGoes.{goes-not, reads-noted, reads-failed, reads-refused}
use Rattle.image_core.proofs.UpperPlans.{plan-reads}
use Rattle.image_core.proofs.image.Image.plan.Goals as goal

pub returns-in_default-clause-goes : goal.returns-in_default-clause-goes
returns-in_default-clause-goes g c = goes-not (seen g.D.Disk c.args.self.now) (λ files left. g.met.D.Disk.now_at c.args.self.now.disk files left)

pub read_upper-requires-clause-fits : goal.read_upper-requires-clause-fits
read_upper-requires-clause-fits g c = image-fits (seen g.D.Disk c.args.self.now) c.requires.standing

pub returns-in-Ok-read_upper-clause-goes : goal.returns-in-Ok-read_upper-clause-goes
returns-in-Ok-read_upper-clause-goes g c = reads-noted g.D.Disk c.args.self.now c.read_upper.new.disk (λ files left. g.met.D.Disk.now_at c.args.self.now.disk files left) (λ files leaves. g.met.D.Disk.at_now c.args.self.now.disk files leaves) c.read_upper.ensures.quiet c.read_upper.ensures.cause.later c.args.extent.at c.args.extent.count c.requires.within

pub returns-in-Ok-read_upper-clause-bytes : goal.returns-in-Ok-read_upper-clause-bytes
returns-in-Ok-read_upper-clause-bytes g c told base history k =
    c.in-Ok-read_upper.ensures.bytes told (now base history) k.tops k.attempts k.fits (base-stays base history k.base_is k.few k.proper).0

pub returns-in-Ok-read_upper-clause-image : goal.returns-in-Ok-read_upper-clause-image
returns-in-Ok-read_upper-clause-image g c told base history k =
    plan-reads (seen g.D.Disk c.args.self.now) base history k c.args.extent.at c.args.extent.count
    c.args.out.now c.read_upper.new.out k c.requires.size c.requires.within (returns-in-Ok-read_upper-clause-bytes g c told base history k)

pub returns-in_default-clause-quiet : goal.returns-in_default-clause-quiet
returns-in_default-clause-quiet g c = quiet_none (g.D.Disk.state c.args.self.now.disk) (λ files left. g.met.D.Disk.now_at c.args.self.now.disk files left)

pub returns-in-Ok-read_upper-clause-gaps : goal.returns-in-Ok-read_upper-clause-gaps
returns-in-Ok-read_upper-clause-gaps g c base history k = c.in-Ok-read_upper.ensures.gaps (now base history) k.tops k.attempts k.fits

pub returns-in-Err-Failed-clause-goes : goal.returns-in-Err-Failed-clause-goes
returns-in-Err-Failed-clause-goes g c = reads-failed g.D.Disk c.args.self.now c.read_upper.new.disk (λ files left. g.met.D.Disk.now_at c.args.self.now.disk files left) (λ files leaves. g.met.D.Disk.at_now c.args.self.now.disk files leaves) c.read_upper.ensures.quiet c.read_upper.ensures.cause.later (c.in-Err-Failed.ensures.cause.failed (ap (λ e. Err e) c.in-Err-Failed.field-0-is))

pub returns-clause-goes : goal.returns-clause-goes
returns-clause-goes g c = reads-refused g.D.Disk c.args.self.now c.read_upper.new.disk (λ files left. g.met.D.Disk.now_at c.args.self.now.disk files left) (λ files leaves. g.met.D.Disk.at_now c.args.self.now.disk files leaves) c.read_upper.ensures.quiet c.read_upper.ensures.cause.later
