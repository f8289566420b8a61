use Rattle.flat_image.proofs.ExampleFacts.{full_top}
use Rattle.model_tests.proofs.flat_image_examples.full_top.Goals as goal

pub returns : goal.returns
returns c = full_top
