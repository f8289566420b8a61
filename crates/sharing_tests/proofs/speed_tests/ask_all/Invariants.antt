use Rattle.std.proofs.Common.{◌≡◌, false}
use Rattle.sharing_tests.proofs.speed_tests.ask_all.Given as goal

abbrev pub invariant-loop-number : goal.invariant-loop-number
invariant-loop-number g l = record {
  lock : l.seat.lock ≡ l.fn.seat.lock;
  number : l.seat.number ≡ l.fn.seat.number;
  idle : l.seat.holds ≡ false;
}
