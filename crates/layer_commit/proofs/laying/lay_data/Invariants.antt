use Rattle.std.proofs.Common.{◌≡◌, ◌+◌, ◌≤◌, IsTrue, take, length}
use Rattle.block_disk.specs.Claims.{Quiet}
use Rattle.layer_commit.specs.Laying.{Lays}
use Rattle.layer_commit.specs.Sources.{copied, AreWithin}
use Rattle.layer_commit.proofs.laying.lay_data.Given as goal

abbrev pub invariant-loop-source : goal.invariant-loop-source
invariant-loop-source g l = record {
  few : l.first + l.source-index ≤ length l.sources;
  laid : IsTrue g.D.Disk.tells → AreWithin ((g.D.Disk.state l.fn.disk).seen l.file) l.sources
      → Lays l.fn.from 4096 (copied ((g.D.Disk.state l.fn.disk).seen l.file) (take (l.first + l.source-index) l.sources)) l.fn.out l.out;
  size : length l.out ≡ length l.fn.out;
  quiet : Quiet (g.D.Disk.state l.fn.disk) (g.D.Disk.state l.disk);
  faults : g.D.Disk.faults l.disk ≡ g.D.Disk.faults l.fn.disk;
}
