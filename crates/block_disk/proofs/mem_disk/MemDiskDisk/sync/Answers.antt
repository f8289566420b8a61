use Rattle.block_disk.proofs.Calls.{synced_told}
use Rattle.block_disk.proofs.mem_disk.MemDiskDisk.sync.Goals as goal

pub returns-in-Ok-clause-steps : goal.returns-in-Ok-clause-steps
returns-in-Ok-clause-steps c = synced_told c.args.file c.args.self.now.history c.sync.new.self c.in-Ok.ensures.start c.in-Ok.ensures.ok
