use Rattle.std.proofs.Common.{[], sym}
use Rattle.image_core.specs.Creating.{fresh_at}
use Rattle.image_tests.proofs.scenes.make.Goals as goal

pub play-requires : goal.play-requires
play-requires g c =
    let told = c.in_ok-layers.ensures in
    let files = c.args.shelf.files in
    let base = fresh_at c.args.sectors files (g.D.Disk.faults c.in-Ok.image.disk) in
    record { over = (base, [], sym told.files, c.in-Ok.ensures.stands files told.told) }
