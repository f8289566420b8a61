use Rattle.std.proofs.Common.{◌≡◌, take}
use Rattle.merged_index.specs.Cells.{cell_in, numbered}
use Rattle.layer_tests.proofs.plain.plain_cell.Given as goal

abbrev pub invariant-loop-number : goal.invariant-loop-number
invariant-loop-number l = cell_in (numbered 0 l.layers) l.sector ≡ cell_in (numbered 0 (take l.number l.layers)) l.sector
