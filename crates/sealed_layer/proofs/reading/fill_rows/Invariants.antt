use Rattle.std.proofs.Common.{◌≡◌, ◌-◌, ◌≤◌, length, All, IfSome, vec_capacity}
use Rattle.layer_shelf.specs.Shelves.{file_at}
use Rattle.flat_image.specs.RowCells.{AreSpelled, AreLayerRows, end_of}
use Rattle.sealed_layer.specs.Layers.{IsTagged}
use Rattle.sealed_layer.proofs.reading.fill_rows.Given as goal

-- the rows so far are read
abbrev pub invariant-loop-rows : goal.invariant-loop-rows
invariant-loop-rows g l = record {
  files : g.S.Shelf.files l.shelf ≡ g.S.Shelf.files l.initial.shelf;
  count : g.S.Shelf.count l.shelf ≡ g.S.Shelf.count l.initial.shelf;
  faults : g.S.Shelf.faults l.shelf ≡ g.S.Shelf.faults l.initial.shelf;
  few : length l.rows.items ≤ l.count;
  room : l.count ≤ vec_capacity l.rows;
  low : l.low ≡ end_of 0 l.rows.items;
  sound : AreLayerRows l.head.sectors l.head.index_at 0 l.rows.items;
  tags : All IsTagged l.rows.items;
  spelled : IfSome (g.S.Shelf.files l.initial.shelf) (λ files. AreSpelled (file_at files l.k) l.head.index_at l.rows.items);
}

abbrev pub decreases-loop-rows : goal.decreases-loop-rows
decreases-loop-rows g l = l.count - length l.rows.items
