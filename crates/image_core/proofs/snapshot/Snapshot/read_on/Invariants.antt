use Rattle.std.proofs.Common.{◌≡◌, ℕ, ◌+◌, ◌<◌, ◌≤◌, drop, length, IfSome}
use Rattle.merged_index.specs.Cells.{cells_of}
use Rattle.merged_index.specs.Pieces.{AreCells, end_of}
use Rattle.image_core.specs.Whole.{sectors_by, IsFilled, Pending}
use Rattle.image_core.proofs.snapshot.Snapshot.read_on.Given as goal

-- the pieces that are left go on behind the run up to that sector, and all before the run is read
abbrev pub invariant-loop-piece : goal.invariant-loop-piece
invariant-loop-piece g l = record {
  until : ℕ;
  further : end_of l.fn.run < until;
  within : until ≤ l.gap.at + l.gap.count;
  cells : AreCells (cells_of l.self.index) (end_of l.run) until (drop l.piece-index l.pieces);
  pending : Pending (g.F.LayerSource.layers l.source) (cells_of l.self.index) l.at (length l.out) l.run;
  filled : IfSome (g.F.LayerSource.files l.fn.source) (λ files. IsFilled (sectors_by files (cells_of l.self.index)) l.at l.fn.run.extent.at l.run.extent.at l.fn.out l.out);
  files : g.F.LayerSource.files l.source ≡ g.F.LayerSource.files l.fn.source;
  count : g.F.LayerSource.layers l.source ≡ g.F.LayerSource.layers l.fn.source;
  reads : g.F.LayerSource.reads l.fn.source l.source;
}
