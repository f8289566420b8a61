use Rattle.std.proofs.Common.{◌≡◌, ◌-◌, ◌*◌, ◌≤◌, min, take, vec_capacity, IfSome}
use Rattle.std.specs.Io.KnownBytes.{Appends}
use Rattle.layer_commands.specs.Flattening.{told_flat}
use Rattle.layer_commands.proofs.flattening.write_flat.Given as goal

abbrev pub invariant-loop-at : goal.invariant-loop-at
invariant-loop-at g l = record {
  written : IfSome (g.S.Shelf.files l.fn.shelf) (λ files.
      Appends (g.B.Sink.written l.fn.out) (g.B.Sink.written l.out) (take (512 * l.at) (told_flat l.sectors files l.layers)));
  within : l.at ≤ l.sectors;
  room : min l.sectors 2048 * 512 ≤ vec_capacity l.piece;
  files : g.S.Shelf.files l.shelf ≡ g.S.Shelf.files l.fn.shelf;
  count : g.S.Shelf.count l.shelf ≡ g.S.Shelf.count l.fn.shelf;
  shelf_faults : g.S.Shelf.faults l.shelf ≡ g.S.Shelf.faults l.fn.shelf;
  sink_faults : g.B.Sink.faults l.out ≡ g.B.Sink.faults l.fn.out;
}

abbrev pub decreases-loop-at : goal.decreases-loop-at
decreases-loop-at g l = l.sectors - l.at
