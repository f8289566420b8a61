use Rattle.std.proofs.Common.{◌≡◌, ℕ, ◌<◌, ◌≤◌, ◌⊎◌, take}
use Rattle.seg_table.specs.Cells.{cell_in, IsEdge}
use Rattle.seg_table.proofs.plain_search.run_from.Given as goal

-- the puts from `number` on say nothing of the sectors from `from` up to `until`
abbrev pub invariant-loop-number : goal.invariant-loop-number
invariant-loop-number g l =
    (l.from < l.until) × (l.until ≤ l.end)
    × ((sector : ℕ) → l.from ≤ sector → sector < l.until → cell_in l.puts sector ≡ cell_in (take l.number l.puts) sector)
    × ((l.until ≡ l.end) ⊎ IsEdge l.puts l.until)
    × (l.initial.steps ≤ l.steps)
