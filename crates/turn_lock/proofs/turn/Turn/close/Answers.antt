use Rattle.turn_lock.proofs.Gathering.{all_gathered, closes, closing_seats, closing}
use Rattle.turn_lock.proofs.turn.Turn.close.Goals as goal

pub shut-requires-clause-all : goal.shut-requires-clause-all
shut-requires-clause-all g c = let key = c.self.inside.desk.table.shared.key in let items = c.into_vec.result.items in
    all_gathered g.V.Stands.stands key.base.value key.first c.self.inside.desk.table.shared.table_id key.seats items c.gather-pass.result.me.0 (closing_seats _ c.args.self items c.args.seats c.self.view_is c.into_vec.ensures c.requires) c.gather-pass.ensures.all

pub returns : goal.returns
returns g c = let key = c.self.inside.desk.table.shared.key in let items = c.into_vec.result.items in
    closing g.V.Stands.stands _ c.args.self items c.args.seats c.shut.result c.self.view_is c.into_vec.ensures
    (closes g.V.Stands.stands key.base.value key.first c.self.inside.desk.table.shared.table_id key.seats items c.gather-pass.result.me.0 c.shut.result
    (closing_seats _ c.args.self items c.args.seats c.self.view_is c.into_vec.ensures c.requires) c.gather-pass.ensures.all c.shut.ensures)
