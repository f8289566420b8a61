use Rattle.std.proofs.Common.{true}
use Rattle.shared_image.specs.Turns.{seat_port}
use Rattle.sharing_tests.proofs.Seals.{seals-epoch}
use Rattle.sharing_tests.proofs.shared_image_tests.sealed_file.Goals as goal

pub peek-requires-clause-committed : goal.peek-requires-clause-committed
peek-requires-clause-committed g c =
    seals-epoch (seat_port true c.args.shared.now c.args.seat.now 0) (seat_port true c.args.shared.now c.seal.new.seat 0) _ c.in-Ok.epoch (c.in-Ok.ensures.seal true 0)
