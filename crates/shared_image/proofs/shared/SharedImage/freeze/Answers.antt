use Rattle.shared_image.proofs.CommitCharges.{freeze-charges}
use Rattle.shared_image.proofs.shared.SharedImage.freeze.Goals as goal

pub returns-clause-cause : goal.returns-clause-cause
returns-clause-cause g c tells shelf =
    freeze-charges tells c.args.self.now shelf c.args.seat.now c.freeze_as.new.seat c.freeze_as.result c.args.uuid (c.freeze_as.ensures.freeze tells shelf)
