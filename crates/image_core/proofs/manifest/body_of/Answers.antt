use Rattle.std.proofs.Common.{arith}
use Rattle.std.specs.Prelude.{◌-◌, length, replicate}
use Rattle.image_core.proofs.ManifestBodies.{was-put, count-put, epoch-put, uuid-put, size-put, format-put}
use Rattle.image_core.proofs.manifest.body_of.Goals as goal

pub returns-clause-count : goal.returns-clause-count
returns-clause-count c =
    count-put c.args.committed c.args.epoch c.args.sectors 2 c.args.uuid.now c.finish.result
    (was-put c.args.committed c.args.epoch c.args.sectors 2 c.args.uuid.now c.finish.result c.new-body.result c.put_u64_le.new.self c.put_u64_le-2.new.self
    c.put_bytes.new.self c.put_u64_le-3.new.self c.put_u64_le-4.new.self (replicate (48 - length c.put_u64_le-4.new.self) 0)
    c.new-body.ensures c.put_u64_le.ensures c.put_u64_le-2.ensures c.put_bytes.ensures c.put_u64_le-3.ensures c.put_u64_le-4.ensures c.finish.ensures) c.ranges.committed.fits

pub returns-clause-epoch : goal.returns-clause-epoch
returns-clause-epoch c =
    epoch-put c.args.committed c.args.epoch c.args.sectors 2 c.args.uuid.now c.finish.result
    (was-put c.args.committed c.args.epoch c.args.sectors 2 c.args.uuid.now c.finish.result c.new-body.result c.put_u64_le.new.self c.put_u64_le-2.new.self
    c.put_bytes.new.self c.put_u64_le-3.new.self c.put_u64_le-4.new.self (replicate (48 - length c.put_u64_le-4.new.self) 0)
    c.new-body.ensures c.put_u64_le.ensures c.put_u64_le-2.ensures c.put_bytes.ensures c.put_u64_le-3.ensures c.put_u64_le-4.ensures c.finish.ensures) c.ranges.epoch.fits

pub returns-clause-uuid : goal.returns-clause-uuid
returns-clause-uuid c =
    uuid-put c.args.committed c.args.epoch c.args.sectors 2 c.args.uuid.now c.finish.result
    (was-put c.args.committed c.args.epoch c.args.sectors 2 c.args.uuid.now c.finish.result c.new-body.result c.put_u64_le.new.self c.put_u64_le-2.new.self
    c.put_bytes.new.self c.put_u64_le-3.new.self c.put_u64_le-4.new.self (replicate (48 - length c.put_u64_le-4.new.self) 0)
    c.new-body.ensures c.put_u64_le.ensures c.put_u64_le-2.ensures c.put_bytes.ensures c.put_u64_le-3.ensures c.put_u64_le-4.ensures c.finish.ensures) c.told-uuid

pub returns-clause-size : goal.returns-clause-size
returns-clause-size c =
    size-put c.args.committed c.args.epoch c.args.sectors 2 c.args.uuid.now c.finish.result
    (was-put c.args.committed c.args.epoch c.args.sectors 2 c.args.uuid.now c.finish.result c.new-body.result c.put_u64_le.new.self c.put_u64_le-2.new.self
    c.put_bytes.new.self c.put_u64_le-3.new.self c.put_u64_le-4.new.self (replicate (48 - length c.put_u64_le-4.new.self) 0)
    c.new-body.ensures c.put_u64_le.ensures c.put_u64_le-2.ensures c.put_bytes.ensures c.put_u64_le-3.ensures c.put_u64_le-4.ensures c.finish.ensures) c.told-uuid c.ranges.sectors.fits

pub returns-clause-format : goal.returns-clause-format
returns-clause-format c =
    format-put c.args.committed c.args.epoch c.args.sectors 2 c.args.uuid.now c.finish.result
    (was-put c.args.committed c.args.epoch c.args.sectors 2 c.args.uuid.now c.finish.result c.new-body.result c.put_u64_le.new.self c.put_u64_le-2.new.self
    c.put_bytes.new.self c.put_u64_le-3.new.self c.put_u64_le-4.new.self (replicate (48 - length c.put_u64_le-4.new.self) 0)
    c.new-body.ensures c.put_u64_le.ensures c.put_u64_le-2.ensures c.put_bytes.ensures c.put_u64_le-3.ensures c.put_u64_le-4.ensures c.finish.ensures) c.told-uuid (omega arith)
