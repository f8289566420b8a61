use Rattle.std.proofs.Common.{take}
use Rattle.image_core.proofs.StepLists.{Went}
use Rattle.image_core.proofs.steps.make_all.Given as goal

abbrev pub invariant-loop-numbered : goal.invariant-loop-numbered
invariant-loop-numbered g l = Went g.D.Disk l.initial.image l.image (take l.numbered-index l.list) l.initial.replies.items l.replies.items
