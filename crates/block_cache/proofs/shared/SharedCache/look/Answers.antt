use Rattle.std.proofs.Common.{length}
use Rattle.block_cache.proofs.TurnLaws.{looked}
use Rattle.block_cache.proofs.shared.SharedCache.look.Goals as goal

pub note_look-requires-clause-stands : goal.note_look-requires-clause-stands
note_look-requires-clause-stands g c = (c.look-found.ensures.history c.self.inside.turn.base c.hold.new.seat.seen c.hold.new.seat.number c.in-Ok.ensures.ok.1).1

pub returns-clause-ok : goal.returns-clause-ok
returns-clause-ok g c =
    rw (← c.self.view_is)
    (looked c.self.inside.turn c.args.seat.now c.hold.new.seat c.note_look.new.seat c.in-Ok.ensures.later c.args.key c.args.at (length c.args.out.now) c.look-found.result c.look-found.new.out c.note_look.ensures
    (c.look-found.ensures.history c.self.inside.turn.base c.hold.new.seat.seen c.hold.new.seat.number c.in-Ok.ensures.ok.1).0)
