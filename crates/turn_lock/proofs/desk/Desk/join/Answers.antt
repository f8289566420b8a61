use Rattle.std.proofs.Common.{arith}
use Rattle.turn_lock.proofs.Steps.{join}
use Rattle.turn_lock.proofs.desk.Desk.join.Goals as goal

pub join_seat-requires : goal.join_seat-requires
join_seat-requires g c = let key = c.args.self.now.table.shared.key in (
  c.requires.lock.0,
  c.requires.lock.1,
  c.requires.idle.1,
  omega (arith, c.args.self.now.words),
  join g.V.Stands.stands key.base.value key.first key.seats c.args.pass.now.id c.args.other.id c.args.pass.now.me.0 c.args.other.me.0 c.requires.idle.0,
)
