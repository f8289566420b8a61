use Rattle.shared_image.proofs.Staying.{committed-stays}
use Rattle.shared_image.proofs.laws.committed_law.Goals as goal

pub returns : goal.returns
returns c base history more = committed-stays base history more
