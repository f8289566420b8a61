use Rattle.flat_image.proofs.ExampleFacts.{taller_image}
use Rattle.model_tests.proofs.flat_image_examples.taller_image.Goals as goal

pub returns : goal.returns
returns c = taller_image
