use Rattle.std.proofs.Common.{◌<◌, length, refl, arith}
use Rattle.image_control.proofs.Warmed.{warm-notes, warm-blocks}
use Rattle.image_control.proofs.port.ControlSeatControlPort.warm.Goals as goal

pub returns-in-Ok-clause-answer : goal.returns-in-Ok-clause-answer
returns-in-Ok-clause-answer g c =
    let self = c.args.self.now in
    let within : c.args.layer < length self.image.now.base.lowers = (let a = c.count.ensures in let b = self.count_is in let t = c.if-layer-count in omega (arith, a, b, t)) in (
      warm-notes g.D.Disk.tells (g.S.Shelf.files self.shelf) (g.S.Shelf.files c.warm.new.shelf) self.image.now self.seat (g.S.Shelf.faults self.shelf) (g.S.Shelf.faults c.warm.new.shelf)
          c.in-Ok.ensures.same.files c.in-Ok.ensures.cause.later,
      within,
      warm-blocks g.D.Disk.tells (g.S.Shelf.files self.shelf) self.image.now.base.lowers c.args.layer c.in-Ok.blocks self.files_are c.in-Ok.ensures.blocks,
    )

pub returns-in-Err-clause-answer : goal.returns-in-Err-clause-answer
returns-in-Err-clause-answer g c =
    let self = c.args.self.now in
    let within : c.args.layer < length self.image.now.base.lowers = (let a = c.count.ensures in let b = self.count_is in let t = c.if-layer-count in omega (arith, a, b, t)) in (
      warm-notes g.D.Disk.tells (g.S.Shelf.files self.shelf) (g.S.Shelf.files c.warm.new.shelf) self.image.now self.seat (g.S.Shelf.faults self.shelf) (g.S.Shelf.faults c.warm.new.shelf)
          c.in-Err.ensures.same.files c.in-Err.ensures.cause.later,
      within,
      (let rose = c.in-Err.ensures.cause.failed refl in omega (arith, rose)),
    )
