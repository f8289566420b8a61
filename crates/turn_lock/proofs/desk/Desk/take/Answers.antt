use Rattle.std.proofs.Common.{Some}
use Rattle.turn_lock.proofs.Takes.{whole}
use Rattle.turn_lock.proofs.desk.Desk.take.Goals as goal

pub exchange-requires : goal.exchange-requires
exchange-requires g c = (c.requires.lock, (Some c.requires.full.0, whole c.args.pass.now.me.1 (0, Some c.requires.full.0) c.requires.full.1))
