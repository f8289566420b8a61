use Rattle.std.proofs.Common.{◌≢◌, sym, arith}
use Rattle.std.proofs.lemmas.List.{take_all}
use Rattle.std.proofs.lemmas.List.Elements.{All-same}
use Rattle.sealed_layer.specs.Layers.{LayerIndex}
use Rattle.image_core.proofs.SealedReads.{none-has}
use Rattle.image_core.proofs.load_layers.number_with.Goals as goal

pub returns-clause-none : goal.returns-clause-none
returns-clause-none c =
    none-has c.args.layers.now c.args.uuid.now
    (All-same (λ (l : LayerIndex). l.head.uuid ≢ c.args.uuid.now) c.args.layers.now _ (sym (take_all c.loop-number.number c.args.layers.now (omega arith))) c.loop-number.invariant)
