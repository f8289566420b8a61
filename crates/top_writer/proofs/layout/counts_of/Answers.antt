use Rattle.top_writer.proofs.Bodies.{rows_taken_of, sectors_taken_of}
use Rattle.top_writer.proofs.layout.counts_of.Goals as goal

pub returns-clause-rows : goal.returns-clause-rows
returns-clause-rows c =
    rows_taken_of c.take_u64_le-rows.result c.args.body.now c.new-fields.result c.take_u64_le-rows.new.self c.new-fields.ensures c.take_u64_le-rows.ensures.front c.take_u64_le-rows.ensures.below

pub returns-clause-sectors : goal.returns-clause-sectors
returns-clause-sectors c =
    sectors_taken_of c.take_u64_le-rows.result c.take_u64_le-sectors.result c.args.body.now c.new-fields.result c.take_u64_le-rows.new.self c.take_u64_le-sectors.new.self
    c.new-fields.ensures c.take_u64_le-rows.ensures.front c.take_u64_le-sectors.ensures.front c.take_u64_le-sectors.ensures.below
