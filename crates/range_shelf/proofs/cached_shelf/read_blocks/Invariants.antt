use Rattle.std.proofs.Common.{◌≡◌, ◌+◌, length, IfSome}
use Rattle.layer_shelf.specs.Shelves.{file_at}
use Rattle.block_cache.specs.CacheTurns.{IsIdleSeat}
use Rattle.range_shelf.specs.CachedReads.{ReadsBlocks}
use Rattle.range_shelf.proofs.RangeReads.{IsReadTo, reached}
use Rattle.range_shelf.proofs.cached_shelf.read_blocks.Given as goal

abbrev pub invariant-loop-number : goal.invariant-loop-number
invariant-loop-number g l = record {
  seat : IsIdleSeat l.cache l.seat;
  files : g.S.Shelf.files l.shelf ≡ g.S.Shelf.files l.fn.shelf;
  count : g.S.Shelf.count l.shelf ≡ g.S.Shelf.count l.fn.shelf;
  faults : g.S.Shelf.faults l.shelf ≡ g.S.Shelf.faults l.fn.shelf;
  notes : ReadsBlocks l.cache l.layer l.at (l.at + length l.fn.out) l.number l.fn.seat l.seat;
  bytes : IfSome (g.S.Shelf.files l.fn.shelf) (λ files. IsReadTo (file_at files l.layer) l.at l.out (reached l.at (length l.fn.out) l.number));
}
