use Rattle.http_range.proofs.OneAnswer.{one_reason, one_reply, reply_apart}
use Rattle.http_range.proofs.laws.reply_law.Goals as goal

pub returns-clause-one : goal.returns-clause-one
returns-clause-one c = one_reply

pub returns-clause-apart : goal.returns-clause-apart
returns-clause-apart c = reply_apart

pub returns-clause-reason : goal.returns-clause-reason
returns-clause-reason c = one_reason
