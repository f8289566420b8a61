use Rattle.std.proofs.Common.{◌≡◌, drop}
use Rattle.merged_index.specs.Cells.{what_of}
use Rattle.layer_tests.proofs.plain.said_in.Given as goal

abbrev pub invariant-loop-row : goal.invariant-loop-row
invariant-loop-row l = what_of l.number l.rows l.sector ≡ what_of l.number (drop l.row-index l.rows) l.sector
