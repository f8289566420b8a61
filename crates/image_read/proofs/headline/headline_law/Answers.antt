use Rattle.std.proofs.Common.{false}
use Rattle.image_read.proofs.Headlines.{headline}
use Rattle.image_read.proofs.headline.headline_law.Goals as goal

pub returns : goal.returns
returns c export old new end history =
    headline export old new end history (λ passed answers. c.session_laws.ensures.fits false old.port new.port passed answers)
