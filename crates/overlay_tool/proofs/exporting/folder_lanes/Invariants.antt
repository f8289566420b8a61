use Rattle.std.proofs.Common.{◌≡◌, ℕ, List, length}
use Rattle.std.specs.Prelude.{Option, None, All}
use Rattle.overlay_tool.proofs.exporting.folder_lanes.Given as goal

abbrev pub invariant-loop-number : goal.invariant-loop-number
invariant-loop-number l = record {
  many : length l.lanes.items ≡ l.number;
  same : All (λ pair. (length pair.0.paths ≡ length l.fn.paths) × (◌≡◌ {A = Option (List (List ℕ))} None None)) l.lanes.items;
}
