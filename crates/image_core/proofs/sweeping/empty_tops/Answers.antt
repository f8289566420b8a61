use Rattle.std.proofs.Common.{◌∙◌, arith}
use Rattle.sector_extent.specs.CauseLaws.{calm_ok}
use Rattle.image_core.proofs.Sweeps.{swept-more, emptied-more}
use Rattle.image_core.proofs.sweeping.empty_tops.Goals as goal

pub returns-in_err-empty_top-clause-run : goal.returns-in_err-empty_top-clause-run
returns-in_err-empty_top-clause-run g c =
    swept-more g.D.Disk.tells c.loop-epoch.epoch c.args.count (g.D.Disk.state c.args.disk.now) (g.D.Disk.state c.loop-epoch.disk) (g.D.Disk.state c.empty_top.new.disk) (omega arith)
    c.loop-epoch.invariant.run c.empty_top.ensures.run

pub loop-epoch-preserved : goal.loop-epoch-preserved
loop-epoch-preserved g c =
    let mid = g.D.Disk.state c.loop-epoch.disk in
    let new = g.D.Disk.state c.empty_top.new.disk in
    record {
      run = swept-more g.D.Disk.tells c.loop-epoch.epoch c.args.count (g.D.Disk.state c.args.disk.now) mid new (omega arith) c.loop-epoch.invariant.run c.empty_top.ensures.run;
      emptied = λ told. emptied-more c.loop-epoch.epoch mid new c.empty_top.ensures.run (c.loop-epoch.invariant.emptied told) (c.in_ok-empty_top.ensures.emptied told);
      faults = calm_ok g.D.Disk.faults c.loop-epoch.disk c.empty_top.new.disk c.in_ok-empty_top.ensures.cause ∙ c.loop-epoch.invariant.faults;
    }
