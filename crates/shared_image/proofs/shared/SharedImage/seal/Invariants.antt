use Rattle.flat_image.specs.declared.act.Act.TheVariants.{Seal, Fault}
use Rattle.flat_image.specs.declared.act.Asked.TheVariants.{Uuid}
use Rattle.shared_image.proofs.shared.SharedImage.seal.Given as goal

abbrev pub ghosts-seal_as-N-Named : goal.ghosts-seal_as-N-Named
ghosts-seal_as-N-Named g a = record { it = Seal a.uuid }

abbrev pub ghosts-seal_as-F-Named : goal.ghosts-seal_as-F-Named
ghosts-seal_as-F-Named g a = record { it = Fault (Uuid a.uuid) }
