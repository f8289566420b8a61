use Rattle.sealed_layer.proofs.BlankFile.{blank-layer}
use Rattle.sealed_layer.proofs.LayerUnique.{one_layer, no_layer_fault}
use Rattle.sealed_layer.proofs.laws.layer_laws.Goals as goal

pub returns-clause-one : goal.returns-clause-one
returns-clause-one c = one_layer

pub returns-clause-sound : goal.returns-clause-sound
returns-clause-sound c = no_layer_fault

pub returns-clause-blank : goal.returns-clause-blank
returns-clause-blank c = blank-layer
