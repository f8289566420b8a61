use Rattle.std.proofs.Common.{take, map}
use Rattle.std.specs.Prelude.{Contains}
use Rattle.sealed_layer.specs.Layers.{LayerIndex}
use Rattle.image_core.proofs.stack.has_uuid.Given as goal

-- none of the layers before has it
abbrev pub invariant-loop-layer : goal.invariant-loop-layer
invariant-loop-layer l = Contains (map (λ (x : LayerIndex). x.head.uuid) (take l.layer-index l.layers)) l.uuid → ⊥
