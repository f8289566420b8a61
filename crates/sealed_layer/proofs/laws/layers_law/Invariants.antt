use Rattle.std.proofs.Common.{ℕ, ◌<◌, slice_index_or}
use Rattle.sealed_layer.specs.Layers.{LayerIndex, IsLayerIndex}
use Rattle.sealed_layer.proofs.laws.layers_law.Given as goal

-- the layers so far keep it
abbrev pub invariant-loop-layer : goal.invariant-loop-layer
invariant-loop-layer l =
    (k : ℕ) (d : LayerIndex) → k < l.layer-index → IsLayerIndex (slice_index_or l.layers k d).head (slice_index_or l.layers k d).rows
