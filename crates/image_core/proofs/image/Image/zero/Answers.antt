use Rattle.std.proofs.Common.{◌+◌, refl, ap, arith}
use Rattle.std.specs.Prelude.{Err}
use Rattle.gate_mark.specs.Mark.{sequence_in}
use Rattle.flat_image.specs.declared.act.Act.TheVariants.{Zero}
use Rattle.top_writer.specs.Stands.{with_zero, as_before}
use Rattle.top_writer.proofs.Going.{goes_same}
use Rattle.top_writer.proofs.WriteGoes.{zero_goes}
use Rattle.image_core.specs.Seen.{seen, with_disk}
use Rattle.image_core.proofs.StepGoes.{goes-noted, goes-refused, counts-clean, keeps-before}
use Rattle.image_core.proofs.image.Image.zero.Goals as goal

pub returns-in-Ok-clause-goes : goal.returns-in-Ok-clause-goes
returns-in-Ok-clause-goes g c =
    goes-noted (seen g.D.Disk c.args.self.now) (with_disk g.D.Disk c.args.self.now.disk (record c.args.self.now.parts { top = c.zero.new.self; steps = c.args.self.now.parts.steps + 1 }))
    (with_zero c.args.extent.at c.args.extent.count) as_before (Zero c.args.extent.at c.args.extent.count) (record { manifest = refl; stack = refl }) refl refl
    (zero_goes g.D.Disk.tells (g.D.Disk.state c.args.self.now.disk) c.args.self.now.parts.top c.zero.new.self c.args.extent c.requires.within c.in-Ok.ensures.ok
    (λ files left. g.met.D.Disk.now_at c.args.self.now.disk files left))
    refl (λ b. refl) (λ b is. omega (arith, is, c.requires.within))
    (counts-clean (g.D.Disk.faults c.args.self.now.disk) (g.D.Disk.faults c.args.self.now.disk) (Zero c.args.extent.at c.args.extent.count) refl (omega arith))
    (keeps-before (Zero c.args.extent.at c.args.extent.count) refl)

pub returns-in-Err-Failed-clause-goes : goal.returns-in-Err-Failed-clause-goes
returns-in-Err-Failed-clause-goes g c = absurd (c.in-Err-Failed.ensures.failed (ap (λ e. Err e) c.in-Err-Failed.field-0-is))

pub returns-in-Err-Memory-clause-goes : goal.returns-in-Err-Memory-clause-goes
returns-in-Err-Memory-clause-goes g c =
    goes-refused (seen g.D.Disk c.args.self.now) (with_disk g.D.Disk c.args.self.now.disk (record c.args.self.now.parts { top = c.zero.new.self }))
    (record { manifest = refl; stack = refl }) refl refl (ap (λ v. sequence_in v.mark) c.in-Err-Memory.ensures.err) (omega arith)
    (goes_same g.D.Disk.tells (g.D.Disk.state c.args.self.now.disk) c.args.self.now.parts.top c.zero.new.self c.in-Err-Memory.ensures.err (λ files left. g.met.D.Disk.now_at c.args.self.now.disk files left))

pub returns-in-Err-Full-clause-goes : goal.returns-in-Err-Full-clause-goes
returns-in-Err-Full-clause-goes g c =
    goes-refused (seen g.D.Disk c.args.self.now) (with_disk g.D.Disk c.args.self.now.disk (record c.args.self.now.parts { top = c.zero.new.self }))
    (record { manifest = refl; stack = refl }) refl refl (ap (λ v. sequence_in v.mark) c.in-Err-Full.ensures.err) (omega arith)
    (goes_same g.D.Disk.tells (g.D.Disk.state c.args.self.now.disk) c.args.self.now.parts.top c.zero.new.self c.in-Err-Full.ensures.err (λ files left. g.met.D.Disk.now_at c.args.self.now.disk files left))
