use Rattle.std.proofs.Common.{sym}
use Rattle.clap.specs.Words.{app_of}
use Rattle.tool_setup.proofs.Exits.{is_simple-both}
use Rattle.tool_setup.proofs.parsing.parse.Goals as goal

pub returns-in-Ok : goal.returns-in-Ok
returns-in-Ok c = (c.in-Ok.ensures.kinds c.requires, sym (c.in-Ok.ensures.matches (is_simple-both (app_of c.args.command) c.requires)).0)
