use Rattle.shared_image.specs.Turns.{IsSameSeat}
use Rattle.sharing_tests.proofs.shared_image_tests.copy_whole.Given as goal

abbrev pub invariant-loop : goal.invariant-loop
invariant-loop g l = IsSameSeat l.fn.seat l.seat
