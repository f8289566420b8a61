use Rattle.turn_lock.proofs.Dealing.{dealt}
use Rattle.turn_lock.proofs.turn.Turn.start.Goals as goal

pub returns-clause-seats : goal.returns-clause-seats
returns-clause-seats g c =
    dealt c.in_ok-desk.maker.table_id c.in_ok-desk.desk.table.shared.table_id c.args.seats c.deal.new.list.items c.from_vec.result c.deal.ensures c.in_ok-desk.ensures.ok.1 c.from_vec.ensures
