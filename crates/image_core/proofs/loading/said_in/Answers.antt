use Rattle.std.proofs.Common.{sym}
use Rattle.image_core.proofs.ManifestBodies.{was-taken, count-put, epoch-put, uuid-put, size-put, format-put}
use Rattle.image_core.proofs.loading.said_in.Goals as goal

pub returns-clause-count : goal.returns-clause-count
returns-clause-count c =
    sym (count-put c.take_u64_le-count.result c.take_u64_le-epoch.result c.take_u64_le-sectors.result c.take_u64_le-format.result c.take_bytes-uuid.result.now c.args.body.now
    (was-taken c.take_u64_le-count.result c.take_u64_le-epoch.result c.take_u64_le-sectors.result c.take_u64_le-format.result c.take_bytes-uuid.result.now c.args.body.now
    c.new-fields.result c.take_u64_le-count.new.self c.take_u64_le-epoch.new.self c.take_bytes-uuid.new.self c.take_u64_le-sectors.new.self c.take_u64_le-format.new.self
    c.new-fields.ensures c.take_u64_le-count.ensures.front c.take_u64_le-epoch.ensures.front c.take_bytes-uuid.ensures.front c.take_u64_le-sectors.ensures.front c.take_u64_le-format.ensures.front) c.take_u64_le-count.ensures.below)

pub returns-clause-epoch : goal.returns-clause-epoch
returns-clause-epoch c =
    sym (epoch-put c.take_u64_le-count.result c.take_u64_le-epoch.result c.take_u64_le-sectors.result c.take_u64_le-format.result c.take_bytes-uuid.result.now c.args.body.now
    (was-taken c.take_u64_le-count.result c.take_u64_le-epoch.result c.take_u64_le-sectors.result c.take_u64_le-format.result c.take_bytes-uuid.result.now c.args.body.now
    c.new-fields.result c.take_u64_le-count.new.self c.take_u64_le-epoch.new.self c.take_bytes-uuid.new.self c.take_u64_le-sectors.new.self c.take_u64_le-format.new.self
    c.new-fields.ensures c.take_u64_le-count.ensures.front c.take_u64_le-epoch.ensures.front c.take_bytes-uuid.ensures.front c.take_u64_le-sectors.ensures.front c.take_u64_le-format.ensures.front) c.take_u64_le-epoch.ensures.below)

pub returns-clause-uuid : goal.returns-clause-uuid
returns-clause-uuid c =
    sym (uuid-put c.take_u64_le-count.result c.take_u64_le-epoch.result c.take_u64_le-sectors.result c.take_u64_le-format.result c.take_bytes-uuid.result.now c.args.body.now
    (was-taken c.take_u64_le-count.result c.take_u64_le-epoch.result c.take_u64_le-sectors.result c.take_u64_le-format.result c.take_bytes-uuid.result.now c.args.body.now
    c.new-fields.result c.take_u64_le-count.new.self c.take_u64_le-epoch.new.self c.take_bytes-uuid.new.self c.take_u64_le-sectors.new.self c.take_u64_le-format.new.self
    c.new-fields.ensures c.take_u64_le-count.ensures.front c.take_u64_le-epoch.ensures.front c.take_bytes-uuid.ensures.front c.take_u64_le-sectors.ensures.front c.take_u64_le-format.ensures.front) c.take_bytes-uuid.ensures.size)

pub returns-clause-sectors : goal.returns-clause-sectors
returns-clause-sectors c =
    sym (size-put c.take_u64_le-count.result c.take_u64_le-epoch.result c.take_u64_le-sectors.result c.take_u64_le-format.result c.take_bytes-uuid.result.now c.args.body.now
    (was-taken c.take_u64_le-count.result c.take_u64_le-epoch.result c.take_u64_le-sectors.result c.take_u64_le-format.result c.take_bytes-uuid.result.now c.args.body.now
    c.new-fields.result c.take_u64_le-count.new.self c.take_u64_le-epoch.new.self c.take_bytes-uuid.new.self c.take_u64_le-sectors.new.self c.take_u64_le-format.new.self
    c.new-fields.ensures c.take_u64_le-count.ensures.front c.take_u64_le-epoch.ensures.front c.take_bytes-uuid.ensures.front c.take_u64_le-sectors.ensures.front c.take_u64_le-format.ensures.front) c.take_bytes-uuid.ensures.size c.take_u64_le-sectors.ensures.below)

pub returns-clause-format : goal.returns-clause-format
returns-clause-format c =
    sym (format-put c.take_u64_le-count.result c.take_u64_le-epoch.result c.take_u64_le-sectors.result c.take_u64_le-format.result c.take_bytes-uuid.result.now c.args.body.now
    (was-taken c.take_u64_le-count.result c.take_u64_le-epoch.result c.take_u64_le-sectors.result c.take_u64_le-format.result c.take_bytes-uuid.result.now c.args.body.now
    c.new-fields.result c.take_u64_le-count.new.self c.take_u64_le-epoch.new.self c.take_bytes-uuid.new.self c.take_u64_le-sectors.new.self c.take_u64_le-format.new.self
    c.new-fields.ensures c.take_u64_le-count.ensures.front c.take_u64_le-epoch.ensures.front c.take_bytes-uuid.ensures.front c.take_u64_le-sectors.ensures.front c.take_u64_le-format.ensures.front) c.take_bytes-uuid.ensures.size c.take_u64_le-format.ensures.below)
