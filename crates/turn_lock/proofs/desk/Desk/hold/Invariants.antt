use Rattle.std.proofs.Common.{◌≡◌}
use Rattle.turn_lock.specs.Locks.{IsLater}
use Rattle.turn_lock.specs.Passes.{place_of, IsSeat, IsWord}
use Rattle.turn_lock.proofs.desk.Desk.hold.Given as goal

abbrev pub invariant-loop : goal.invariant-loop
invariant-loop g l = record {
  lock : l.pass.table_id ≡ l.self.table.shared.table_id;
  seat : IsSeat l.pass.me;
  idle : l.pass.me.0.holds ≡ 0;
  later : IsLater (place_of l.fn.pass.table_id l.fn.pass.me) (place_of l.pass.table_id l.pass.me);
  word : IsWord l.self.table.shared.key.first l.pass.me.0.seen l.found;
  next : (goal.iterator-loop g).can_next l.iterator';
  ends : (goal.iterator-loop g).is_finite l.iterator';
}
