use Rattle.std.proofs.Common.{◌≡◌, IsTrue}
use Rattle.block_disk.specs.Claims.{Run}
use Rattle.image_core.specs.Sweeping.{IsSweptFile, AreEmptied}
use Rattle.image_core.proofs.sweeping.empty_tops.Given as goal

abbrev pub invariant-loop-epoch : goal.invariant-loop-epoch
invariant-loop-epoch g l = record {
  run : Run (IsSweptFile l.count) (g.D.Disk.state l.initial.disk) (g.D.Disk.state l.disk) (λ files. Unit {0});
  emptied : IsTrue g.D.Disk.tells → AreEmptied (g.D.Disk.state l.disk).seen l.epoch;
  faults : g.D.Disk.faults l.disk ≡ g.D.Disk.faults l.initial.disk;
}
