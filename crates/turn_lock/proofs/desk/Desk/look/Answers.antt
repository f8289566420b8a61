use Rattle.std.proofs.Common.{arith}
use Rattle.turn_lock.proofs.Steps.{look}
use Rattle.turn_lock.proofs.desk.Desk.look.Goals as goal

pub load-requires : goal.load-requires
load-requires g c = let key = c.args.self.now.table.shared.key in let id = c.args.self.now.table.shared.table_id in
    (c.requires, omega (arith, c.args.self.now.words), look g.V.Stands.stands key.base.value key.first key.seats id.slots c.args.pass.now.id c.args.pass.now.me)
