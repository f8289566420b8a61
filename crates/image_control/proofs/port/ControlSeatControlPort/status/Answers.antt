use Rattle.std.proofs.Common.{◌&&◌, is_some}
use Rattle.image_control.proofs.Told.{told-now}
use Rattle.shared_image.proofs.Charged.{same_none}
use Rattle.image_control.proofs.port.ControlSeatControlPort.status.Goals as goal

pub returns-in-Ok-clause-answer : goal.returns-in-Ok-clause-answer
returns-in-Ok-clause-answer g c =
    let tells = g.D.Disk.tells && is_some (g.S.Shelf.files c.args.self.now.shelf) in
    let shelf = g.S.Shelf.faults c.args.self.now.shelf in
    told-now tells c.args.self.now.image.now shelf c.args.self.now.seat c.status.new.seat c.in-Ok.status c.in-Ok.entries (c.in-Ok.ensures.status tells shelf)

pub returns-in-Ok-clause-worn : goal.returns-in-Ok-clause-worn
returns-in-Ok-clause-worn g c worn =
    let tells = g.D.Disk.tells && is_some (g.S.Shelf.files c.args.self.now.shelf) in
    absurd (cc (c.in-Ok.ensures.worn tells (g.S.Shelf.faults c.args.self.now.shelf) worn))

pub returns-in-Err-clause-answer : goal.returns-in-Err-clause-answer
returns-in-Err-clause-answer g c =
    let tells = g.D.Disk.tells && is_some (g.S.Shelf.files c.args.self.now.shelf) in
    let shelf = g.S.Shelf.faults c.args.self.now.shelf in
    let h = c.in-Err.ensures.status tells shelf in
    (h.0, h.1, same_none tells c.args.self.now.image.now shelf c.args.self.now.seat c.status.new.seat h.1)
