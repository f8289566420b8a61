use Rattle.std.proofs.Common.{arith}
use Rattle.turn_lock.proofs.Takes.{giving, same_lock}
use Rattle.turn_lock.proofs.desk.Desk.give.Goals as goal

pub fetch_sub-requires : goal.fetch_sub-requires
fetch_sub-requires g c = let key = c.args.self.now.table.shared.key in let id = c.args.self.now.table.shared.table_id in (
  same_lock c.put.new.pass.table_id c.args.pass.now.table_id id c.put.ensures.same c.requires.lock,
  omega (arith, c.args.self.now.words),
  giving g.V.Stands.stands key.base.value key.first key.seats id.slots c.put.new.pass.id c.args.pass.now.me c.put.new.pass.me c.args.value c.requires.seat.1 c.put.ensures.put c.requires.stands,
)
