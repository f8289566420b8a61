use Rattle.shared_image.proofs.CommitCharges.{seal-charges}
use Rattle.shared_image.proofs.shared.SharedImage.seal.Goals as goal

pub returns-clause-cause : goal.returns-clause-cause
returns-clause-cause g c tells shelf =
    seal-charges tells c.args.self.now shelf c.args.seat.now c.seal_as.new.seat c.seal_as.result c.args.uuid (c.seal_as.ensures.seal tells shelf)
