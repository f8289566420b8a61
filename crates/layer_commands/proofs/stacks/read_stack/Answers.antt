use Rattle.std.proofs.Common.{arith, rules}
use Rattle.layer_commands.proofs.Readings.{told_stack}
use Rattle.layer_commands.proofs.stacks.read_stack.Goals as goal

pub returns-in-Err-clause-refused : goal.returns-in-Err-clause-refused
returns-in-Err-clause-refused g c =
    told_stack (g.S.Shelf.files c.args.shelf.now) c.in_ok-layers.layers.items (g.S.Shelf.count c.args.shelf.now) c.in-Err.fault c.in_ok-layers.ensures.count (omega arith)
    c.in_ok-layers.ensures.told (search rules)
