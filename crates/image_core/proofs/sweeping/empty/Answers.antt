use Rattle.block_disk.specs.Changes.{Cut}
use Rattle.image_core.proofs.Sweeps.{file-run}
use Rattle.image_core.proofs.sweeping.empty.Goals as goal

pub returns-clause-run : goal.returns-clause-run
returns-clause-run g c =
    file-run c.args.file (Cut 0) (g.D.Disk.state c.args.disk.now) (g.D.Disk.state c.cut.new.self) (g.met.D.Disk.now_at c.args.disk.now) c.cut.ensures.steps
