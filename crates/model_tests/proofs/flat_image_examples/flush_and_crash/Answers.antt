use Rattle.flat_image.proofs.ExampleFacts.{flush_and_crash}
use Rattle.model_tests.proofs.flat_image_examples.flush_and_crash.Goals as goal

pub returns : goal.returns
returns c = flush_and_crash
