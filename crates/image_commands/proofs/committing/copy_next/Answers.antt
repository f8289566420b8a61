use Rattle.std.proofs.Common.{refl, ◌∙◌, subst}
use Rattle.std.specs.Prelude.{Result, Err}
use Rattle.flat_image.specs.declared.act.Act.TheVariants as act
use Rattle.flat_image.specs.declared.act.Asked.TheVariants.{Nothing}
use Rattle.image_core.specs.declared.commit.CopyFault.{CopyFault}
use Rattle.image_core.specs.declared.commit.CopyState.{CopyState}
use Rattle.image_core.specs.Committing.{noted_copy}
use Rattle.image_core.specs.Seen.{Goes, seen}
use Rattle.image_commands.proofs.ImageAdds.{adds-act}
use Rattle.image_commands.proofs.CommitSteps.{image-still, pending-still, steps-still}
use Rattle.image_commands.proofs.committing.copy_next.Goals as goal

abbrev refuses : CopyFault → Result CopyState CopyFault
refuses why = Err why

pub returns-in-Ok-More-clause-same : goal.returns-in-Ok-More-clause-same
returns-in-Ok-More-clause-same g c = λ base history stands. c.in-Ok-More.ensures.goes.stands base history 0 stands

pub returns-in-Ok-More-clause-standing : goal.returns-in-Ok-More-clause-standing
returns-in-Ok-More-clause-standing g c =
    image-still (seen g.D.Disk c.args.image.now) (seen g.D.Disk c.copy.new.self) (λ base history stands. c.in-Ok-More.ensures.goes.stands base history 0 stands) c.requires.standing

pub returns-in-Ok-More-clause-pending : goal.returns-in-Ok-More-clause-pending
returns-in-Ok-More-clause-pending g c =
    pending-still (seen g.D.Disk c.args.image.now) (seen g.D.Disk c.copy.new.self) (λ base history stands. c.in-Ok-More.ensures.goes.stands base history 0 stands) c.requires.standing ∙ c.requires.pending

pub returns-in-Ok-More-clause-stepped : goal.returns-in-Ok-More-clause-stepped
returns-in-Ok-More-clause-stepped g c =
    steps-still (seen g.D.Disk c.args.image.now) (seen g.D.Disk c.copy.new.self) (λ base history stands. c.in-Ok-More.ensures.goes.stands base history 0 stands) c.requires.standing

pub returns-in-Ok-Whole-clause-same : goal.returns-in-Ok-Whole-clause-same
returns-in-Ok-Whole-clause-same g c = λ base history stands. c.in-Ok-Whole.ensures.goes.stands base history 0 stands

pub returns-in-Ok-Whole-clause-standing : goal.returns-in-Ok-Whole-clause-standing
returns-in-Ok-Whole-clause-standing g c =
    image-still (seen g.D.Disk c.args.image.now) (seen g.D.Disk c.copy.new.self) (λ base history stands. c.in-Ok-Whole.ensures.goes.stands base history 0 stands) c.requires.standing

pub returns-in-Ok-Whole-clause-pending : goal.returns-in-Ok-Whole-clause-pending
returns-in-Ok-Whole-clause-pending g c =
    pending-still (seen g.D.Disk c.args.image.now) (seen g.D.Disk c.copy.new.self) (λ base history stands. c.in-Ok-Whole.ensures.goes.stands base history 0 stands) c.requires.standing ∙ c.requires.pending

pub returns-in-Ok-Whole-clause-stepped : goal.returns-in-Ok-Whole-clause-stepped
returns-in-Ok-Whole-clause-stepped g c =
    steps-still (seen g.D.Disk c.args.image.now) (seen g.D.Disk c.copy.new.self) (λ base history stands. c.in-Ok-Whole.ensures.goes.stands base history 0 stands) c.requires.standing

pub returns-in-Err-Failed-clause-failed : goal.returns-in-Err-Failed-clause-failed
returns-in-Err-Failed-clause-failed g c =
    adds-act g.D.Disk.tells (g.D.Disk.state c.args.image.now.disk) (g.D.Disk.state c.copy.new.self.disk) (g.D.Disk.faults c.args.image.now.disk) (g.D.Disk.faults c.copy.new.self.disk)
    c.args.image.now.parts c.copy.new.self.parts (act.Fault Nothing) refl
    (subst (λ (x : CopyFault). Goes (seen g.D.Disk c.args.image.now) (seen g.D.Disk c.copy.new.self) (noted_copy (refuses x))) c.in-Err-Failed.field-0-is c.in-Err-Failed.ensures.goes)
