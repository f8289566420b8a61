use Rattle.std.proofs.Common.{◌∙◌}
use Rattle.top_writer.specs.declared.fault.ReadFault.TheVariants.{Failed}
use Rattle.sector_extent.specs.CauseLaws.{calm_value}
use Rattle.seg_table.specs.Cells.{cells_of}
use Rattle.top_writer.specs.Files.{data_file}
use Rattle.top_writer.proofs.ReadLaws.{quiet_on, read_then}
use Rattle.top_writer.proofs.top.Top.read_all.Goals as goal

pub returns-in_err-run-clause-quiet : goal.returns-in_err-run-clause-quiet
returns-in_err-run-clause-quiet g c =
    quiet_on (g.D.Disk.state c.args.disk.now) (g.D.Disk.state c.loop-disk.disk) (g.D.Disk.state c.read_on.new.disk) c.loop-disk.invariant.2 c.read_on.ensures.quiet

pub loop-disk-preserved : goal.loop-disk-preserved
loop-disk-preserved g c = (
  c.in_ok-run.ensures.pending,
  read_then g.D.Disk.tells (g.D.Disk.state c.args.disk.now) (g.D.Disk.state c.loop-disk.disk) (data_file c.args.self.now.epoch) (cells_of c.args.self.now.table) c.args.extent.now
      c.loop-disk.run.at c.in_ok-run.run'.at c.args.out.now c.loop-disk.out c.read_on.new.out c.args.gaps.now c.loop-disk.gaps c.read_on.new.gaps
      c.loop-disk.invariant.2 c.loop-disk.invariant.1 c.in_ok-run.ensures.read,
  quiet_on (g.D.Disk.state c.args.disk.now) (g.D.Disk.state c.loop-disk.disk) (g.D.Disk.state c.read_on.new.disk) c.loop-disk.invariant.2 c.read_on.ensures.quiet,
  calm_value g.D.Disk.faults c.loop-disk.disk c.read_on.new.disk c.in_ok-run.run' Failed c.in_ok-run.ensures.cause ∙ c.loop-disk.invariant.3,
)

pub returns-in_err-finish-clause-quiet : goal.returns-in_err-finish-clause-quiet
returns-in_err-finish-clause-quiet g c =
    quiet_on (g.D.Disk.state c.args.disk.now) (g.D.Disk.state c.loop-disk.disk) (g.D.Disk.state c.finish.new.disk) c.loop-disk.invariant.2 c.finish.ensures.quiet

pub returns-clause-quiet : goal.returns-clause-quiet
returns-clause-quiet g c =
    quiet_on (g.D.Disk.state c.args.disk.now) (g.D.Disk.state c.loop-disk.disk) (g.D.Disk.state c.finish.new.disk) c.loop-disk.invariant.2 c.finish.ensures.quiet
