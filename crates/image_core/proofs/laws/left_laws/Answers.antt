use Rattle.image_core.proofs.StandLaws.{kept-shows, sealed-stay}
use Rattle.image_core.proofs.laws.left_laws.Goals as goal

pub returns : goal.returns
returns c = record { kept = kept-shows; sealed = sealed-stay }
