use Rattle.std.proofs.Common.{◌≡◌, ◌+◌, ◌-◌}
use Rattle.seg_table.specs.Cells.{cells_of}
use Rattle.block_disk.specs.Claims.{Quiet}
use Rattle.top_writer.specs.Files.{data_file}
use Rattle.top_writer.specs.Reading.{Pending, IsRead}
use Rattle.top_writer.proofs.top.Top.read_all.Given as goal

abbrev pub invariant-loop-disk : goal.invariant-loop-disk
invariant-loop-disk g l =
    Pending (cells_of l.self.table) l.extent l.run
    × IsRead g.D.Disk.tells ((g.D.Disk.state l.fn.disk).seen (data_file l.self.epoch)) (cells_of l.self.table) l.extent.at l.run.at l.fn.out l.out l.fn.gaps l.gaps
    × Quiet (g.D.Disk.state l.fn.disk) (g.D.Disk.state l.disk)
    × (g.D.Disk.faults l.disk ≡ g.D.Disk.faults l.fn.disk)

abbrev pub decreases-loop-disk : goal.decreases-loop-disk
decreases-loop-disk g l = l.extent.at + l.extent.count - (l.run.at + l.run.count)
