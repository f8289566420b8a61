use Rattle.std.specs.Arc.{arc_value}
use Rattle.shared_image.proofs.Charged.{plan-charges}
use Rattle.shared_image.proofs.shared.SharedImage.plan.Goals as goal

pub returns-clause-cause : goal.returns-clause-cause
returns-clause-cause g c tells shelf =
    plan-charges tells c.args.self.now shelf c.args.seat.now c.plan_as.new.seat c.plan_as.result g.D.Disk.tells c.args.extent c.args.out.now c.plan_as.new.out c.plan_as.new.gaps arc_value (c.plan_as.ensures.plan tells shelf)
