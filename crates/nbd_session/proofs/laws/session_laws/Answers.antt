use Rattle.nbd_session.proofs.FitsLaws.{fits_history}
use Rattle.nbd_session.proofs.OrderlyLaws.{orderly_are_served, ends_or_wants}
use Rattle.nbd_session.proofs.FirmTalks.{firm_talk}
use Rattle.nbd_session.proofs.ToldLaws.{told_are_served}
use Rattle.nbd_session.proofs.laws.session_laws.Goals as goal

pub returns : goal.returns
returns c = record { fits = fits_history; ends = ends_or_wants; word = firm_talk; complete = orderly_are_served; told = told_are_served }
