use Rattle.nbd_session.proofs.RefusedFacts.{refusals}
use Rattle.session_tests.proofs.nbd_session_examples.refusals.Goals as goal

pub returns : goal.returns
returns c = refusals
