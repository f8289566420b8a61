use Rattle.std.proofs.Common.{◌≡◌, ◌≤◌}
use Rattle.image_control.proofs.warming.touch_all.Given as goal

abbrev pub invariant-loop-block : goal.invariant-loop-block
invariant-loop-block g l = record {
  within : l.block ≤ l.blocks;
  files : g.S.Shelf.files l.shelf ≡ g.S.Shelf.files l.fn.shelf;
  count : g.S.Shelf.count l.shelf ≡ g.S.Shelf.count l.fn.shelf;
  faults : g.S.Shelf.faults l.shelf ≡ g.S.Shelf.faults l.fn.shelf;
}
