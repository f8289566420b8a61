use Rattle.std.proofs.Common.{ℕ, refl, subst, arith}
use Rattle.std.specs.Prelude.{Result, Err}
use Rattle.flat_image.specs.declared.act.Act.TheVariants as act
use Rattle.flat_image.specs.declared.act.Asked.TheVariants.{Uuid}
use Rattle.image_core.specs.declared.commit.SealFault.{SealFault}
use Rattle.image_core.specs.Committing.{noted_seal}
use Rattle.image_core.specs.Seen.{Goes, seen}
use Rattle.image_commands.proofs.ImageAdds.{adds-act}
use Rattle.image_commands.proofs.ChangeLaws.{standing-then, steps-then}
use Rattle.image_commands.proofs.CommitSteps.{seal-more}
use Rattle.image_commands.proofs.committing.seal_whole.Goals as goal

abbrev refuses : SealFault → Result ℕ SealFault
refuses why = Err why

pub returns-in-Ok-clause-adds : goal.returns-in-Ok-clause-adds
returns-in-Ok-clause-adds g c =
    adds-act g.D.Disk.tells (g.D.Disk.state c.args.image.now.disk) (g.D.Disk.state c.seal.new.self.disk) (g.D.Disk.faults c.args.image.now.disk) (g.D.Disk.faults c.seal.new.self.disk)
    c.args.image.now.parts c.seal.new.self.parts (act.Seal c.args.uuid) refl c.in-Ok.ensures.goes

pub returns-in-Ok-clause-standing : goal.returns-in-Ok-clause-standing
returns-in-Ok-clause-standing g c =
    standing-then g.D.Disk.tells (g.D.Disk.state c.args.image.now.disk) (g.D.Disk.state c.seal.new.self.disk) (g.D.Disk.faults c.args.image.now.disk) (g.D.Disk.faults c.seal.new.self.disk)
    c.args.image.now.parts c.seal.new.self.parts (act.Seal c.args.uuid) c.in-Ok.ensures.goes c.requires.standing

pub returns-in-Ok-clause-more : goal.returns-in-Ok-clause-more
returns-in-Ok-clause-more g c =
    let more = seal-more g.D.Disk.tells (g.D.Disk.state c.args.image.now.disk) (g.D.Disk.state c.seal.new.self.disk) (g.D.Disk.faults c.args.image.now.disk) (g.D.Disk.faults c.seal.new.self.disk)
    c.args.image.now.parts c.seal.new.self.parts c.args.uuid c.in-Ok.ensures.goes c.requires.pending c.requires.standing in
    let epoch = c.in-Ok.ensures.epoch in
    omega (arith, more, epoch)

pub returns-in-Ok-clause-stepped : goal.returns-in-Ok-clause-stepped
returns-in-Ok-clause-stepped g c =
    let e = steps-then g.D.Disk.tells (g.D.Disk.state c.args.image.now.disk) (g.D.Disk.state c.seal.new.self.disk) (g.D.Disk.faults c.args.image.now.disk) (g.D.Disk.faults c.seal.new.self.disk)
    c.args.image.now.parts c.seal.new.self.parts (act.Seal c.args.uuid) c.in-Ok.ensures.goes c.requires.standing in
    omega (arith, e)

pub returns-in-Err-Failed-clause-failed : goal.returns-in-Err-Failed-clause-failed
returns-in-Err-Failed-clause-failed g c =
    adds-act g.D.Disk.tells (g.D.Disk.state c.args.image.now.disk) (g.D.Disk.state c.seal.new.self.disk) (g.D.Disk.faults c.args.image.now.disk) (g.D.Disk.faults c.seal.new.self.disk)
    c.args.image.now.parts c.seal.new.self.parts (act.Fault (Uuid c.args.uuid)) refl
    (subst (λ (x : SealFault). Goes (seen g.D.Disk c.args.image.now) (seen g.D.Disk c.seal.new.self) (noted_seal c.args.uuid (refuses x))) c.in-Err-Failed.field-0-is c.in-Err-Failed.ensures.goes)
