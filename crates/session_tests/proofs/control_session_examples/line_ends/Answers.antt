use Rattle.control_session.proofs.ExampleFacts.{line_ends}
use Rattle.session_tests.proofs.control_session_examples.line_ends.Goals as goal

pub returns : goal.returns
returns c = line_ends
