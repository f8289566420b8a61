use Rattle.std.proofs.Common.{arith, Some}
use Rattle.turn_lock.proofs.Steps.{name}
use Rattle.turn_lock.proofs.Takes.{noting, same_lock}
use Rattle.turn_lock.proofs.desk.Desk.note.Goals as goal

pub load-requires : goal.load-requires
load-requires g c = let key = c.args.self.now.table.shared.key in let id = c.args.self.now.table.shared.table_id in
    (c.requires.lock, omega (arith, c.args.self.now.words), name g.V.Stands.stands key.base.value key.first key.seats id.slots c.args.pass.now.id c.args.pass.now.me (Some g.N.Named.it))

pub fetch_add-requires : goal.fetch_add-requires
fetch_add-requires g c = let key = c.args.self.now.table.shared.key in let id = c.args.self.now.table.shared.table_id in (
  same_lock c.put.new.pass.table_id c.load.new.seat.table_id id c.put.ensures.same (same_lock c.load.new.seat.table_id c.args.pass.now.table_id id c.load.ensures.0 c.requires.lock),
  omega (arith, c.args.self.now.words),
  noting g.V.Stands.stands key.base.value key.first key.seats id.slots c.put.new.pass.id c.args.pass.now.me c.load.new.seat.me c.put.new.pass.me c.args.value g.N.Named.it c.requires.seat.1 c.load.ensures.2 c.put.ensures.put c.requires.stands,
)
