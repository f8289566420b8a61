use Rattle.std.proofs.Common.{◌∙◌, ap}
use Rattle.clap.specs.Simple.{app_of_fields}
use Rattle.tool_setup.specs.Taken.{without_help}
use Rattle.tool_setup.proofs.parsing.bare_command.Goals as goal

pub returns : goal.returns
returns c = ap app_of_fields c.disable_help_flag.ensures ∙ ap without_help c.new.ensures.app
