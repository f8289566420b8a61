use Rattle.std.proofs.Common.{◌≡◌, ◌/◌, length, take, IfSome}
use Rattle.layer_shelf.specs.Shelves.{file_at}
use Rattle.flat_image.specs.RowCells.{cell_of}
use Rattle.flat_image.proofs.Runs.{run}
use Rattle.sealed_layer.proofs.painting.paint_part.Given as goal

-- the rows so far are painted
abbrev pub invariant-loop-row : goal.invariant-loop-row
invariant-loop-row g l = record {
  files : g.S.Shelf.files l.shelf ≡ g.S.Shelf.files l.initial.shelf;
  count : g.S.Shelf.count l.shelf ≡ g.S.Shelf.count l.initial.shelf;
  faults : g.S.Shelf.faults l.shelf ≡ g.S.Shelf.faults l.initial.shelf;
  painted : IfSome (g.S.Shelf.files l.initial.shelf) (λ files. l.out ≡ run (cell_of (file_at files l.k) (take l.row-index l.rest)) l.at (length l.initial.out / 512) l.initial.out);
}
