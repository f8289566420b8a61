use Rattle.std.proofs.Common.{length}
use Rattle.merged_index.proofs.paint.+merged.Given as goal

-- proposed from what the function passes where it calls itself
abbrev pub decreases-merged : goal.decreases-merged
decreases-merged l = length l.layers.now
