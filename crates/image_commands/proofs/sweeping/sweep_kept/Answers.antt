use Rattle.std.proofs.Common.{refl}
use Rattle.flat_image.specs.declared.act.Act.TheVariants as act
use Rattle.flat_image.specs.declared.act.Asked.TheVariants.{Nothing}
use Rattle.image_commands.proofs.ImageAdds.{adds-none, adds-act}
use Rattle.image_commands.proofs.sweeping.sweep_kept.Goals as goal

pub returns-in-Ok-clause-adds : goal.returns-in-Ok-clause-adds
returns-in-Ok-clause-adds g c =
    adds-none g.D.Disk.tells (g.D.Disk.state c.args.image.now.disk) (g.D.Disk.state c.sweep.new.self.disk) (g.D.Disk.faults c.args.image.now.disk) (g.D.Disk.faults c.sweep.new.self.disk)
    c.args.image.now.parts c.sweep.new.self.parts c.in-Ok.ensures.goes

pub returns-in-Err-clause-failed : goal.returns-in-Err-clause-failed
returns-in-Err-clause-failed g c =
    adds-act g.D.Disk.tells (g.D.Disk.state c.args.image.now.disk) (g.D.Disk.state c.sweep.new.self.disk) (g.D.Disk.faults c.args.image.now.disk) (g.D.Disk.faults c.sweep.new.self.disk)
    c.args.image.now.parts c.sweep.new.self.parts (act.Fault Nothing) refl c.in-Err.ensures.goes
