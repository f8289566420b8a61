use Rattle.std.proofs.Common.{◌≡◌, length}
use Rattle.overlay_tool.proofs.setup.copy_all.Given as goal

abbrev pub invariant-loop-text : goal.invariant-loop-text
invariant-loop-text l = length l.copies.items ≡ l.text-index
