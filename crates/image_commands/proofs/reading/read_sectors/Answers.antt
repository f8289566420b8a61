use Rattle.std.proofs.Common.{rules}
use Rattle.image_commands.proofs.reading.read_sectors.Goals as goal

pub returns-else-len-ne0-clause-taken : goal.returns-else-len-ne0-clause-taken
returns-else-len-ne0-clause-taken g c = record {
  bytes = c.in-Ok.bytes.items;
  taken = c.in-Ok.ensures.taken;
  short = search rules;
  whole = search rules;
}
