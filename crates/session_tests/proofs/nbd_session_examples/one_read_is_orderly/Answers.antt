use Rattle.nbd_session.proofs.OrderlyFacts.{one_read_is_orderly}
use Rattle.session_tests.proofs.nbd_session_examples.one_read_is_orderly.Goals as goal

pub returns : goal.returns
returns c = one_read_is_orderly
