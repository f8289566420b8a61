use Rattle.std.proofs.Common.{refl, ap}
use Rattle.flat_image.specs.declared.act.Act.TheVariants as act
use Rattle.top_writer.proofs.QuietLaws.{quiet_none}
use Rattle.image_commands.proofs.ImageAdds.{adds-act}
use Rattle.image_commands.proofs.GrowLaws.{grow-refused}
use Rattle.image_commands.proofs.growing.grow_kept.Goals as goal

pub returns-in-Ok-clause-adds : goal.returns-in-Ok-clause-adds
returns-in-Ok-clause-adds g c =
    adds-act g.D.Disk.tells (g.D.Disk.state c.args.image.now.disk) (g.D.Disk.state c.grow.new.self.disk) (g.D.Disk.faults c.args.image.now.disk) (g.D.Disk.faults c.grow.new.self.disk)
    c.args.image.now.parts c.grow.new.self.parts (act.Grow c.args.sectors) refl c.in-Ok.ensures.goes

pub returns-in-Err-clause-refused : goal.returns-in-Err-clause-refused
returns-in-Err-clause-refused g c =
    rw c.grow_refusal.ensures (grow-refused g.D.Disk.tells (g.D.Disk.state c.args.image.now.disk) (g.D.Disk.state c.grow.new.self.disk) (g.D.Disk.faults c.args.image.now.disk) (g.D.Disk.faults c.grow.new.self.disk)
    c.args.image.now.parts c.grow.new.self.parts c.args.sectors c.in-Err.fault c.in-Err.ensures.goes c.in-Err.ensures.refused
    (quiet_none (g.D.Disk.state c.args.image.now.disk) (λ files left. g.met.D.Disk.now_at c.args.image.now.disk files left))
    (λ other. ap (λ i. g.D.Disk.state i.disk) (c.in-Err.ensures.same other)) c.in-Err.ensures.cause.failed)
