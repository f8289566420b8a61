use Rattle.std.proofs.Common.{◌+◌, refl, ap, arith}
use Rattle.std.specs.Prelude.{Err}
use Rattle.gate_mark.specs.Mark.{sequence_in}
use Rattle.flat_image.specs.declared.act.Act.TheVariants.{Write, Fault}
use Rattle.flat_image.specs.declared.act.Asked.TheVariants.{Nothing}
use Rattle.top_writer.specs.Stands.{with_write, unchanged, as_before}
use Rattle.image_core.specs.Seen.{seen, with_disk}
use Rattle.image_core.proofs.StepGoes.{goes-noted, goes-refused, counts-clean, counts-fault, keeps-before, within-write}
use Rattle.image_core.proofs.image.Image.write.Goals as goal

pub returns-in-Ok-clause-goes : goal.returns-in-Ok-clause-goes
returns-in-Ok-clause-goes g c =
    goes-noted (seen g.D.Disk c.args.self.now) (with_disk g.D.Disk c.write.new.disk (record c.args.self.now.parts { top = c.write.new.self; steps = c.args.self.now.parts.steps + 1 }))
    (with_write c.args.extent.at c.args.bytes.now) as_before (Write c.args.extent.at c.args.bytes.now) (record { manifest = refl; stack = refl }) refl refl c.in-Ok.ensures.ok
    refl (λ b. refl) (λ b is. within-write b.sectors c.args.extent.at c.args.extent.count c.args.bytes.now c.requires.size (omega (arith, is, c.requires.within)))
    (counts-clean (g.D.Disk.faults c.args.self.now.disk) (g.D.Disk.faults c.write.new.disk) (Write c.args.extent.at c.args.bytes.now) refl c.write.ensures.cause.later)
    (keeps-before (Write c.args.extent.at c.args.bytes.now) refl)

pub returns-in-Err-Failed-clause-goes : goal.returns-in-Err-Failed-clause-goes
returns-in-Err-Failed-clause-goes g c =
    goes-noted (seen g.D.Disk c.args.self.now) (with_disk g.D.Disk c.write.new.disk (record c.args.self.now.parts { top = c.write.new.self; steps = c.args.self.now.parts.steps + 1 }))
    unchanged as_before (Fault Nothing) (record { manifest = refl; stack = refl }) refl refl c.in-Err-Failed.ensures.err
    refl (λ b. refl) (λ b is. tt)
    (counts-fault (g.D.Disk.faults c.args.self.now.disk) (g.D.Disk.faults c.write.new.disk) Nothing (omega (arith, c.in-Err-Failed.ensures.cause.failed (ap (λ e. Err e) c.in-Err-Failed.field-0-is))))
    (keeps-before (Fault Nothing) refl)

pub returns-in-Err-Memory-clause-goes : goal.returns-in-Err-Memory-clause-goes
returns-in-Err-Memory-clause-goes g c =
    goes-refused (seen g.D.Disk c.args.self.now) (with_disk g.D.Disk c.write.new.disk (record c.args.self.now.parts { top = c.write.new.self }))
    (record { manifest = refl; stack = refl }) refl refl (ap sequence_in c.write.ensures.mark) c.write.ensures.cause.later c.in-Err-Memory.ensures.err

pub returns-in-Err-Full-clause-goes : goal.returns-in-Err-Full-clause-goes
returns-in-Err-Full-clause-goes g c =
    goes-refused (seen g.D.Disk c.args.self.now) (with_disk g.D.Disk c.write.new.disk (record c.args.self.now.parts { top = c.write.new.self }))
    (record { manifest = refl; stack = refl }) refl refl (ap sequence_in c.write.ensures.mark) c.write.ensures.cause.later c.in-Err-Full.ensures.err
