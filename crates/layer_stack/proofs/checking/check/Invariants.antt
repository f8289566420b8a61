use Rattle.std.proofs.Common.{◌≡◌, take}
use Rattle.lsmt_header.specs.Blocks.{nil}
use Rattle.layer_stack.specs.Faults.{AreFree, top_uuid, top_sectors}
use Rattle.layer_stack.proofs.checking.check.Given as goal

abbrev pub invariant-loop-number : goal.invariant-loop-number
invariant-loop-number l = record {
  free : AreFree (take l.number l.heads);
  lower_is : l.lower ≡ top_sectors 0 (take l.number l.heads);
  parent_is : l.parent ≡ top_uuid nil (take l.number l.heads);
}
