use Rattle.std.proofs.Common.{◌≡◌, length, take}
use Rattle.seg_table.specs.Segments.{joined}
use Rattle.seg_table.proofs.leaf.count_in.Given as goal

abbrev pub invariant-loop-leaf : goal.invariant-loop-leaf
invariant-loop-leaf l = l.count ≡ length (joined (take l.leaf-index l.leaves))
