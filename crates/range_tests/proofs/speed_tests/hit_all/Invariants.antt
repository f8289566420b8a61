use Rattle.std.proofs.Common.{◌≡◌, false}
use Rattle.range_tests.proofs.speed_tests.hit_all.Given as goal

abbrev pub invariant-loop-number : goal.invariant-loop-number
invariant-loop-number g l = record {
  lock : l.seat.lock ≡ l.fn.seat.lock;
  number : l.seat.number ≡ l.fn.seat.number;
  idle : l.seat.holds ≡ false;
}
