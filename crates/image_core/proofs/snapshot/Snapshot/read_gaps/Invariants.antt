use Rattle.std.proofs.Common.{◌≡◌, ◌≤◌, take, IfSome}
use Rattle.merged_index.specs.Cells.{cells_of}
use Rattle.image_core.specs.Whole.{sectors_by, AreFilled}
use Rattle.image_core.proofs.snapshot.Snapshot.read_gaps.Given as goal

-- the gaps so far are read
abbrev pub invariant-loop-gap : goal.invariant-loop-gap
invariant-loop-gap g l = record {
  filled : IfSome (g.F.LayerSource.files l.fn.source) (λ files. AreFilled (sectors_by files (cells_of l.self.index)) l.at (take l.gap-index l.gaps) l.fn.out l.out);
  files : g.F.LayerSource.files l.source ≡ g.F.LayerSource.files l.fn.source;
  count : g.F.LayerSource.layers l.source ≡ g.F.LayerSource.layers l.fn.source;
  reads : g.F.LayerSource.reads l.fn.source l.source;
}
