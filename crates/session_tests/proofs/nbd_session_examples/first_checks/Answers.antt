use Rattle.nbd_session.proofs.ExampleFacts.{first_checks}
use Rattle.session_tests.proofs.nbd_session_examples.first_checks.Goals as goal

pub returns : goal.returns
returns c = first_checks
