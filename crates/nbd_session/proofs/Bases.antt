-- A port keeps its base, whatever is put to it.
use Rattle.std.proofs.Common.{◌≡◌, Bool, List}
use Rattle.flat_image.specs.Ports.{PortState}
use Rattle.nbd_session.specs.Replies.{Answer}
use Rattle.nbd_session.specs.Talks.{Passed}
use Rattle.nbd_session.specs.Fits.{Fits}
use Rattle.nbd_session.proofs.OneAnswer.{later_base}
use Rattle.nbd_session.proofs.FitsLaws.{fits_notes}

pub Fits-base : (takes : Bool) (p q : PortState) (passed : List Passed) (answers : List Answer) → Fits takes p passed answers q → q.base ≡ p.base
Fits-base takes p q passed answers h = let (acts, notes) = fits_notes takes p q passed answers h in later_base p q acts notes
