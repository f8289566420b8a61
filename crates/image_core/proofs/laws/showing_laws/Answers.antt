use Rattle.image_core.proofs.ShownBase.{shows-a_base, shows-one_base}
use Rattle.image_core.proofs.Named.{shows-by_named}
use Rattle.image_core.proofs.laws.showing_laws.Goals as goal

pub returns : goal.returns
returns c = record { base = shows-a_base; one = shows-one_base; named = shows-by_named }
