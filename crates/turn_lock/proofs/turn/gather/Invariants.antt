use Rattle.std.proofs.Common.{◌≡◌, length}
use Rattle.turn_lock.proofs.Gathering.{Rests, GathersFrom}
use Rattle.turn_lock.proofs.turn.gather.Given as goal

abbrev pub invariant-loop-seat : goal.invariant-loop-seat
invariant-loop-seat g l = record {
  lock : l.pass.table_id ≡ l.desk.table.shared.table_id;
  idle : l.pass.me.0.holds ≡ 0;
  rest : Rests l.fn.seats.items l.seats.items;
  gathered : GathersFrom l.fn.seats.items (length l.seats.items) l.pass.me.0;
}

abbrev pub decreases-loop-seat : goal.decreases-loop-seat
decreases-loop-seat g l = goal.left-loop-seat g l
