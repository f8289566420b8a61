use Rattle.std.proofs.Common.{◌≡◌, length}
use Rattle.overlay_tool.proofs.setup.targets_of.Given as goal

abbrev pub invariant-loop-path : goal.invariant-loop-path
invariant-loop-path l = length l.targets.items ≡ l.path-index
