use Rattle.std.proofs.Common.{refl}
use Rattle.flat_image.specs.declared.act.Act.TheVariants.{Write}
use Rattle.shared_image.proofs.Charged.{change-charges}
use Rattle.shared_image.proofs.shared.SharedImage.write.Goals as goal

pub returns-clause-cause : goal.returns-clause-cause
returns-clause-cause g c tells shelf =
    change-charges tells c.args.self.now shelf c.args.seat.now c.write_as.new.seat c.write_as.result (Write c.args.extent.at c.args.bytes.now) refl (c.write_as.ensures.write tells shelf)
