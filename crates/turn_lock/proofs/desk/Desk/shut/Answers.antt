use Rattle.turn_lock.proofs.Ending.{ends_some, ends_with}
use Rattle.turn_lock.proofs.desk.Desk.shut.Goals as goal

pub unreachable-requires : goal.unreachable-requires
unreachable-requires g c = let key = c.args.self.table.shared.key in
    ends_some g.V.Stands.stands key.base.value key.first key.seats c.args.pass.id c.args.pass.me.0 _ _ c.take-slot.result c.requires.idle c.requires.all c.close_with-closed.ensures.values.2 c.take-slot.ensures.value c.in-None.is

pub returns : goal.returns
returns g c = let key = c.args.self.table.shared.key in
    ends_with g.V.Stands.stands key.base.value key.first key.seats c.args.pass.id c.args.pass.me.0 _ _ c.take-slot.result c.in-Some.value c.requires.idle c.requires.all c.close_with-closed.ensures.values.2 c.take-slot.ensures.value c.in-Some.is
