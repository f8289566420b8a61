use Rattle.std.proofs.Common.{arith}
use Rattle.turn_lock.proofs.Steps.{make}
use Rattle.turn_lock.proofs.desk.Desk.next_seat.Goals as goal

pub split_seat-requires : goal.split_seat-requires
split_seat-requires g c = let key = c.args.self.now.table.shared.key in
    (c.requires.lock, omega (arith, c.args.self.now.words), make g.V.Stands.stands key.base.value key.first key.seats c.args.maker.now.id c.args.maker.now.me.0 c.requires.next.0 c.requires.next.1)
