use Rattle.std.proofs.Common.{◌≡◌, ◌+◌, ◌-◌, ◌≤◌, length, IfSome}
use Rattle.merged_index.specs.Cells.{cells_of}
use Rattle.merged_index.specs.Pieces.{end_of}
use Rattle.image_core.specs.Whole.{sectors_by, IsFilled, Pending}
use Rattle.image_core.proofs.snapshot.Snapshot.read_gap.Given as goal

-- all of the gap before the run is read
abbrev pub invariant-loop-source : goal.invariant-loop-source
invariant-loop-source g l = record {
  within : end_of l.run ≤ l.gap.at + l.gap.count;
  pending : Pending (g.F.LayerSource.layers l.source) (cells_of l.self.index) l.at (length l.out) l.run;
  filled : IfSome (g.F.LayerSource.files l.fn.source) (λ files. IsFilled (sectors_by files (cells_of l.self.index)) l.at l.gap.at l.run.extent.at l.fn.out l.out);
  files : g.F.LayerSource.files l.source ≡ g.F.LayerSource.files l.fn.source;
  count : g.F.LayerSource.layers l.source ≡ g.F.LayerSource.layers l.fn.source;
  reads : g.F.LayerSource.reads l.fn.source l.source;
}

abbrev pub decreases-loop-source : goal.decreases-loop-source
decreases-loop-source g l = l.gap.at + l.gap.count - end_of l.run
