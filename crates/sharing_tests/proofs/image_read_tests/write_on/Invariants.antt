use Rattle.shared_image.specs.Turns.{IsSameSeat}
use Rattle.sharing_tests.proofs.image_read_tests.write_on.Given as goal

abbrev pub invariant-loop-byte : goal.invariant-loop-byte
invariant-loop-byte g l = IsSameSeat l.fn.seat l.seat
