use Rattle.control_session.proofs.Numbers.{no_uuid}
use Rattle.control_session.proofs.line.commit_line.Goals as goal

pub returns-in-Err-clause-said : goal.returns-in-Err-clause-said
returns-in-Err-clause-said c = no_uuid _ c.try_parse_ascii.result c.in-Err.field-0 c.try_parse_ascii.ensures.ok c.in-Err.is
