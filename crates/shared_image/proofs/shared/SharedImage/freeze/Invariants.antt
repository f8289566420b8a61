use Rattle.flat_image.specs.declared.act.Act.TheVariants.{Freeze, Fault}
use Rattle.flat_image.specs.declared.act.Asked.TheVariants.{Uuid}
use Rattle.shared_image.proofs.shared.SharedImage.freeze.Given as goal

abbrev pub ghosts-freeze_as-N-Named : goal.ghosts-freeze_as-N-Named
ghosts-freeze_as-N-Named g a = record { it = Freeze a.uuid }

abbrev pub ghosts-freeze_as-F-Named : goal.ghosts-freeze_as-F-Named
ghosts-freeze_as-F-Named g a = record { it = Fault (Uuid a.uuid) }
