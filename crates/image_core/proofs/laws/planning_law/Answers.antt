use Rattle.image_core.specs.Seen.{seen}
use Rattle.image_core.proofs.UpperPlans.{plan-reads}
use Rattle.image_core.proofs.laws.planning_law.Goals as goal

pub returns : goal.returns
returns g c base history at count old new stands = plan-reads (seen g.D.Disk c.args.image.now) base history stands at count old new stands
