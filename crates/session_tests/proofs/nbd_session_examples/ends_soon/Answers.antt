use Rattle.nbd_session.proofs.ExampleFacts.{ends_soon}
use Rattle.session_tests.proofs.nbd_session_examples.ends_soon.Goals as goal

pub returns : goal.returns
returns c = ends_soon
