use Rattle.std.proofs.Common.{arith, ◌/◌}
use Rattle.turn_lock.proofs.Steps.{claim}
use Rattle.turn_lock.proofs.desk.Desk.claim.Goals as goal

pub compare_exchange-requires : goal.compare_exchange-requires
compare_exchange-requires g c = let key = c.args.self.now.table.shared.key in let id = c.args.self.now.table.shared.table_id in
    (c.requires.lock, omega (arith, c.args.self.now.words), claim g.V.Stands.stands key.base.value key.first key.seats id.slots c.args.pass.now.id c.args.pass.now.me c.args.found (c.args.found / 2) (omega arith) (omega arith) c.requires.numbered)
