use Rattle.flat_image.proofs.ExampleFacts.{lanes_and_commit}
use Rattle.model_tests.proofs.flat_image_examples.lanes_and_commit.Goals as goal

pub returns : goal.returns
returns c = lanes_and_commit
