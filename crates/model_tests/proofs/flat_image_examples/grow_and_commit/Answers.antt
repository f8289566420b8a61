use Rattle.flat_image.proofs.ExampleFacts.{grow_and_commit}
use Rattle.model_tests.proofs.flat_image_examples.grow_and_commit.Goals as goal

pub returns : goal.returns
returns c = grow_and_commit
