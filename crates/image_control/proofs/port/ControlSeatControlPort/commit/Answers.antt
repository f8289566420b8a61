use Rattle.std.proofs.Common.{◌&&◌, is_some}
use Rattle.image_control.proofs.port.ControlSeatControlPort.commit.Goals as goal

pub returns-clause-answer : goal.returns-clause-answer
returns-clause-answer g c = c.commit.ensures.answer (g.D.Disk.tells && is_some (g.S.Shelf.files c.args.self.now.shelf)) (g.S.Shelf.faults c.args.self.now.shelf)

pub returns-clause-cause : goal.returns-clause-cause
returns-clause-cause g c = c.commit.ensures.cause (g.D.Disk.tells && is_some (g.S.Shelf.files c.args.self.now.shelf)) (g.S.Shelf.faults c.args.self.now.shelf)

pub returns-clause-worn : goal.returns-clause-worn
returns-clause-worn g c = c.commit.ensures.worn (g.D.Disk.tells && is_some (g.S.Shelf.files c.args.self.now.shelf)) (g.S.Shelf.faults c.args.self.now.shelf)
