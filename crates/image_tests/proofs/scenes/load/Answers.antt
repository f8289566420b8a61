use Rattle.std.proofs.Common.{[], sym, ◌∙◌}
use Rattle.image_tests.proofs.scenes.load.Goals as goal

pub play-requires : goal.play-requires
play-requires g c =
    let told = c.in_ok-layers.ensures in
    let loaded = c.in-Ok.ensures.stands c.args.shelf.files told.told in
    record { over = (loaded.base, [], loaded.lowers_are ∙ sym told.files, loaded.stands) }
