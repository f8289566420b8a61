use Rattle.std.proofs.Common.{sym, ◌∙◌}
use Rattle.layer_commands.proofs.Pieces.{last_sectors, none_last}
use Rattle.layer_commands.proofs.commands.stack_sectors.Goals as goal

pub returns-in-Some-clause-value : goal.returns-in-Some-clause-value
returns-in-Some-clause-value c = c.sectors.ensures.value ∙ last_sectors c.args.layers.now c.in-Some.layer.now (sym c.in-Some.ensures.value)

pub returns-in-None-clause-value : goal.returns-in-None-clause-value
returns-in-None-clause-value c = none_last c.args.layers.now (sym c.in-None.ensures.value)
