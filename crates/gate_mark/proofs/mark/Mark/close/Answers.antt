use Rattle.std.proofs.Common.{◌≡◌}
use Rattle.block_disk.specs.DiskState.{Files}
use Rattle.block_disk.proofs.Moments.{run_started}
use Rattle.gate_mark.specs.Mark.{MarkFits}
use Rattle.gate_mark.proofs.mark.Mark.close.Goals as goal

pub returns-in-Closed-clause-run : goal.returns-in-Closed-clause-run
returns-in-Closed-clause-run g c =
    run_started (λ f. f ≡ c.args.self.now.file) (g.D.Disk.state c.args.disk.now) (λ (files : Files). MarkFits c.args.self.now (files c.args.self.now.file))
    (g.met.D.Disk.now_at c.args.disk.now) (λ files leaves. c.requires.kept (files c.args.self.now.file) (leaves c.args.self.now.file))
