use Rattle.image_core.specs.Seen.{seen}
use Rattle.image_core.proofs.WholeReads.{reads-below}
use Rattle.image_core.proofs.image.Image.below_law.Goals as goal

pub returns : goal.returns
returns g c base history s = reads-below (seen g.D.Disk c.args.self.now) base history s
