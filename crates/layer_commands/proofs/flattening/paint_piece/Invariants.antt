use Rattle.std.proofs.Common.{◌≡◌, ◌*◌, length, drop, IfSome}
use Rattle.layer_commands.specs.Flattening.{overlaid, flat_part}
use Rattle.layer_commands.proofs.flattening.paint_piece.Given as goal

abbrev pub invariant-loop-k : goal.invariant-loop-k
invariant-loop-k g l = record {
  files : g.S.Shelf.files l.shelf ≡ g.S.Shelf.files l.fn.shelf;
  count : g.S.Shelf.count l.shelf ≡ g.S.Shelf.count l.fn.shelf;
  faults : g.S.Shelf.faults l.shelf ≡ g.S.Shelf.faults l.fn.shelf;
  painted : IfSome (g.S.Shelf.files l.fn.shelf) (λ files. overlaid (drop l.k files) (drop l.k l.layers) l.at l.count l.piece ≡ flat_part files l.layers l.at l.count);
  size : length l.piece ≡ 512 * l.count;
}
