use Rattle.flat_image.proofs.ExampleFacts.{faults_and_order}
use Rattle.model_tests.proofs.flat_image_examples.faults_and_order.Goals as goal

pub returns : goal.returns
returns c = faults_and_order
