use Rattle.std.proofs.Common.{◌∙◌}
use Rattle.tool_setup.proofs.Members.{named-refs}
use Rattle.tool_setup.proofs.fields.is_among.Goals as goal

pub returns : goal.returns
returns c = c.contains.ensures.value ∙ named-refs c.args.names.now c.args.name.now
