use Rattle.std.proofs.Common.{◌+◌, refl, arith}
use Rattle.flat_image.specs.declared.act.Act.TheVariants.{Flush, Fault}
use Rattle.flat_image.specs.declared.act.Asked.TheVariants.{Nothing}
use Rattle.top_writer.specs.Stands.{unchanged, just_this, this_too}
use Rattle.image_core.specs.Seen.{seen, with_disk}
use Rattle.image_core.proofs.StepGoes.{goes-noted, counts-clean, counts-fault, keeps-flushed, keeps-unflushed}
use Rattle.image_core.proofs.image.Image.flush.Goals as goal

pub returns-in-Ok-clause-goes : goal.returns-in-Ok-clause-goes
returns-in-Ok-clause-goes g c =
    goes-noted (seen g.D.Disk c.args.self.now) (with_disk g.D.Disk c.flush.new.disk (record c.args.self.now.parts { top = c.flush.new.self; steps = c.args.self.now.parts.steps + 1 }))
    unchanged just_this Flush (record { manifest = refl; stack = refl }) refl refl c.in-Ok.ensures.ok refl (λ b. refl) (λ b is. tt)
    (counts-clean (g.D.Disk.faults c.args.self.now.disk) (g.D.Disk.faults c.flush.new.disk) Flush refl c.flush.ensures.cause.later) keeps-flushed

pub returns-in-Err-clause-goes : goal.returns-in-Err-clause-goes
returns-in-Err-clause-goes g c =
    goes-noted (seen g.D.Disk c.args.self.now) (with_disk g.D.Disk c.flush.new.disk (record c.args.self.now.parts { top = c.flush.new.self; steps = c.args.self.now.parts.steps + 1 }))
    unchanged this_too (Fault Nothing) (record { manifest = refl; stack = refl }) refl refl c.in-Err.ensures.err refl (λ b. refl) (λ b is. tt)
    (counts-fault (g.D.Disk.faults c.args.self.now.disk) (g.D.Disk.faults c.flush.new.disk) Nothing (omega (arith, c.in-Err.ensures.cause.failed refl))) (keeps-unflushed Nothing)
