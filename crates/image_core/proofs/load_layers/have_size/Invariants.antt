use Rattle.std.proofs.Common.{take}
use Rattle.image_core.specs.Shows.{HaveSize}
use Rattle.image_core.specs.Loading.{heads_in}
use Rattle.image_core.proofs.load_layers.have_size.Given as goal

abbrev pub invariant-loop-layer : goal.invariant-loop-layer
invariant-loop-layer l = HaveSize l.named.exact l.named.sectors (heads_in (take l.layer-index l.layers))
