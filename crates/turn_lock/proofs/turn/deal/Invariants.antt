use Rattle.std.proofs.Common.{◌≡◌, ◌+◌, vec_len, vec_capacity}
use Rattle.turn_lock.specs.Passes.{AreNew}
use Rattle.turn_lock.proofs.turn.deal.Given as goal

abbrev pub invariant-loop : goal.invariant-loop
invariant-loop g l = record {
  lock : l.maker.table_id ≡ l.fn.maker.table_id;
  next : l.maker.me.0.next ≡ l.counter + 1;
  new : AreNew l.fn.maker.table_id l.counter l.list.items;
  len : vec_len l.list ≡ l.counter;
  room : vec_capacity l.list ≡ l.seats;
}
