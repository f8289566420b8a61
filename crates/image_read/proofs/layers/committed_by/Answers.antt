use Rattle.std.proofs.Common.{refl}
use Rattle.flat_image.specs.History.{committed}
use Rattle.image_read.proofs.layers.committed_by.Goals as goal

pub such-requires : goal.such-requires
such-requires g c = (committed c.args.image.now.base c.args.seat.now.seen, refl)
