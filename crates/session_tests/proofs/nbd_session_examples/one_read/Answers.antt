use Rattle.nbd_session.proofs.ExampleFacts.{one_read}
use Rattle.session_tests.proofs.nbd_session_examples.one_read.Goals as goal

pub returns : goal.returns
returns c = one_read
