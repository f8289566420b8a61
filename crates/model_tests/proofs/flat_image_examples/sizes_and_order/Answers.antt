use Rattle.flat_image.proofs.ExampleFacts.{sizes_and_order}
use Rattle.model_tests.proofs.flat_image_examples.sizes_and_order.Goals as goal

pub returns : goal.returns
returns c = sizes_and_order
