use Rattle.control_session.proofs.FitsLaws.{fits_history}
use Rattle.control_session.proofs.laws.control_laws.Goals as goal

pub returns : goal.returns
returns c = fits_history
