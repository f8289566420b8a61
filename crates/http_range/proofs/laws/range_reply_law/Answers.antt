use Rattle.http_range.proofs.RangeReply.{reply_good, reply_only}
use Rattle.http_range.proofs.laws.range_reply_law.Goals as goal

pub returns-clause-good : goal.returns-clause-good
returns-clause-good c = reply_good

pub returns-clause-only : goal.returns-clause-only
returns-clause-only c = reply_only
