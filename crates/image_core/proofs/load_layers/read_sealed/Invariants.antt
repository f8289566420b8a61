use Rattle.std.proofs.Common.{◌≡◌}
use Rattle.image_core.proofs.SealedReads.{AreReadTo}
use Rattle.image_core.proofs.load_layers.read_sealed.Given as goal

abbrev pub invariant-loop-epoch : goal.invariant-loop-epoch
invariant-loop-epoch g l =
    AreReadTo g.D.Disk.tells (g.D.Disk.state l.fn.disk) (g.D.Disk.state l.disk) l.fn.layers.items l.layers.items l.epoch
    × (g.D.Disk.faults l.disk ≡ g.D.Disk.faults l.fn.disk)
