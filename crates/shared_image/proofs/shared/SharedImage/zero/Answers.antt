use Rattle.std.proofs.Common.{refl}
use Rattle.flat_image.specs.declared.act.Act.TheVariants.{Zero}
use Rattle.shared_image.proofs.Charged.{change-charges}
use Rattle.shared_image.proofs.shared.SharedImage.zero.Goals as goal

pub returns-clause-cause : goal.returns-clause-cause
returns-clause-cause g c tells shelf =
    change-charges tells c.args.self.now shelf c.args.seat.now c.zero_as.new.seat c.zero_as.result (Zero c.args.extent.at c.args.extent.count) refl (c.zero_as.ensures.zero tells shelf)
