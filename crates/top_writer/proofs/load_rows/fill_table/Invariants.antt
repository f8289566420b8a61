use Rattle.std.proofs.Common.{◌≡◌, ◌-◌, ◌≤◌}
use Rattle.block_disk.specs.Claims.{Quiet}
use Rattle.top_writer.specs.Files.{index_file}
use Rattle.top_writer.specs.Loading.{AreLoaded}
use Rattle.top_writer.proofs.load_rows.fill_table.Given as goal

-- the rows so far are in the table
abbrev pub invariant-loop-number : goal.invariant-loop-number
invariant-loop-number g l = record {
  few : l.number ≤ l.rows;
  quiet : Quiet (g.D.Disk.state l.fn.disk) (g.D.Disk.state l.disk);
  faults : g.D.Disk.faults l.disk ≡ g.D.Disk.faults l.fn.disk;
  loaded : AreLoaded g.D.Disk.tells l.sectors l.filled ((g.D.Disk.state l.fn.disk).seen (index_file l.epoch)) l.number l.table.segments;
}

abbrev pub decreases-loop-number : goal.decreases-loop-number
decreases-loop-number g l = l.rows - l.number
