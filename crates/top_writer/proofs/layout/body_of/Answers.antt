use Rattle.std.specs.Prelude.{◌-◌, length, replicate}
use Rattle.top_writer.proofs.Bodies.{said_rows, said_sectors}
use Rattle.top_writer.proofs.layout.body_of.Goals as goal

pub returns-clause-rows : goal.returns-clause-rows
returns-clause-rows c =
    said_rows c.args.rows c.args.sectors c.finish.result c.put_u64_le.new.self c.put_u64_le-2.new.self c.new-body.result (replicate (48 - length c.put_u64_le-2.new.self) 0)
    c.new-body.ensures c.put_u64_le.ensures c.put_u64_le-2.ensures c.finish.ensures c.ranges.rows.fits

pub returns-clause-sectors : goal.returns-clause-sectors
returns-clause-sectors c =
    said_sectors c.args.rows c.args.sectors c.finish.result c.put_u64_le.new.self c.put_u64_le-2.new.self c.new-body.result (replicate (48 - length c.put_u64_le-2.new.self) 0)
    c.new-body.ensures c.put_u64_le.ensures c.put_u64_le-2.ensures c.finish.ensures c.ranges.sectors.fits
