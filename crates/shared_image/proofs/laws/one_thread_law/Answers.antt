use Rattle.image_core.specs.Seen.{seen}
use Rattle.shared_image.proofs.Same.{same-images}
use Rattle.shared_image.proofs.laws.one_thread_law.Goals as goal

pub returns : goal.returns
returns g c base history stands same =
    same-images (seen g.D.Disk c.args.closed.now) (seen g.E.Disk c.args.run.now) base history
    (c.standing_law.ensures base history stands) (c.standing_law-2.ensures base history same)
