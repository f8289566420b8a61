use Rattle.control_session.proofs.ExampleFacts.{words}
use Rattle.session_tests.proofs.control_session_examples.words.Goals as goal

pub returns : goal.returns
returns c = words
