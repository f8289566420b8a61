use Rattle.std.proofs.Common.{◌≡◌, ℕ, ◌<◌, Some}
use Rattle.seg_table.specs.Cells.{cells_of}
use Rattle.seg_table.specs.declared.segment.What.TheVariants as kind
use Rattle.layer_commit.specs.Gathered.{EndBy}
use Rattle.layer_tests.proofs.layer_commit_tests.begun.Given as goal

abbrev pub invariant-loop-run : goal.invariant-loop-run
invariant-loop-run l = record {
  within : EndBy l.case.sectors (cells_of l.table);
  low : (i place : ℕ) → cells_of l.table i ≡ Some (kind.Place place) → place < 640;
}
