use Rattle.std.proofs.Common.{ℕ, Bool}
use Rattle.shared_image.specs.Turns.{seat_port, IsIdleSeat, IsSameSeat}
use Rattle.image_control.specs.Committing.{GoesOn}
use Rattle.image_control.proofs.committing.carry_on.Given as goal

abbrev pub invariant-loop : goal.invariant-loop
invariant-loop g l = record {
  next : (goal.iterator-loop g).can_next l.iterator';
  finite : (goal.iterator-loop g).is_finite l.iterator';
  seat : IsIdleSeat l.image l.seat;
  same : IsSameSeat l.fn.seat l.seat;
  on : (tells : Bool) (shelf : ℕ) → GoesOn (seat_port tells l.image l.fn.seat shelf) (seat_port tells l.image l.seat shelf) l.uuid;
}
