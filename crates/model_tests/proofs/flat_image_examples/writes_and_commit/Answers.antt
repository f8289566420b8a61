use Rattle.flat_image.proofs.ExampleFacts.{writes_and_commit}
use Rattle.model_tests.proofs.flat_image_examples.writes_and_commit.Goals as goal

pub returns : goal.returns
returns c = writes_and_commit
