use Rattle.std.proofs.Common.{◌≡◌, length}
use Rattle.std.specs.Prelude.{None, All}
use Rattle.range_shelf.specs.RangeShelves.{files_told}
use Rattle.overlay_tool.proofs.exporting.far_lanes.Given as goal

abbrev pub invariant-loop-number : goal.invariant-loop-number
invariant-loop-number l = record {
  many : length l.lanes.items ≡ l.number;
  same : All (λ pair. (length pair.0.targets ≡ length l.fn.paths) × (files_told pair.0 ≡ None)) l.lanes.items;
}
