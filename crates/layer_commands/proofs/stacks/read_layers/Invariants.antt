use Rattle.std.proofs.Common.{◌≡◌, length, take, All, IfSome}
use Rattle.sealed_layer.specs.Layers.{IsLayerIndex}
use Rattle.layer_commands.specs.Flattening.{AreTold}
use Rattle.layer_commands.proofs.stacks.read_layers.Given as goal

abbrev pub invariant-loop-k : goal.invariant-loop-k
invariant-loop-k g l = record {
  told : IfSome (g.S.Shelf.files l.fn.shelf) (λ files. AreTold (take l.k files) l.layers.items);
  sound : All (λ layer. IsLayerIndex layer.head layer.rows) l.layers.items;
  size : length l.layers.items ≡ l.k;
  files : g.S.Shelf.files l.shelf ≡ g.S.Shelf.files l.fn.shelf;
  count : g.S.Shelf.count l.shelf ≡ g.S.Shelf.count l.fn.shelf;
  faults : g.S.Shelf.faults l.shelf ≡ g.S.Shelf.faults l.fn.shelf;
}
