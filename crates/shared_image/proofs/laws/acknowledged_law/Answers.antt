use Rattle.shared_image.proofs.Kept.{flush-kept}
use Rattle.shared_image.proofs.laws.acknowledged_law.Goals as goal

pub returns : goal.returns
returns c before number = flush-kept before number
