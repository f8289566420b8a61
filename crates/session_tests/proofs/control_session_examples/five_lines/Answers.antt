use Rattle.control_session.proofs.ExampleFacts.{five_lines}
use Rattle.session_tests.proofs.control_session_examples.five_lines.Goals as goal

pub returns : goal.returns
returns c = five_lines
