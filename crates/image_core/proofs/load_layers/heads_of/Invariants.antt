use Rattle.std.proofs.Common.{◌≡◌, take}
use Rattle.image_core.specs.Loading.{heads_in}
use Rattle.image_core.proofs.load_layers.heads_of.Given as goal

abbrev pub invariant-loop-layer : goal.invariant-loop-layer
invariant-loop-layer l = l.heads.items ≡ take l.layer-index (heads_in l.layers)
