use Rattle.std.proofs.Common.{◌≡◌, ◌-◌, Some}
use Rattle.image_core.specs.Growing.{pending_in}
use Rattle.image_core.specs.Committing.{done_of, total_of}
use Rattle.image_core.specs.Parts.{parts_view}
use Rattle.image_core.specs.Seen.{IsImage}
use Rattle.image_commands.specs.ImageSteps.{IsAsBefore}
use Rattle.image_commands.proofs.committing.copy_whole.Given as goal

abbrev pub invariant-loop : goal.invariant-loop
invariant-loop g l = record {
  standing : IsImage (record { tells = g.D.Disk.tells; state = g.D.Disk.state l.image.disk; faults = g.D.Disk.faults l.image.disk; parts = l.image.parts });
  same : IsAsBefore (record { tells = g.D.Disk.tells; state = g.D.Disk.state l.fn.image.disk; faults = g.D.Disk.faults l.fn.image.disk; parts = l.fn.image.parts })
      (record { tells = g.D.Disk.tells; state = g.D.Disk.state l.image.disk; faults = g.D.Disk.faults l.image.disk; parts = l.image.parts });
  pending : pending_in (parts_view l.image.parts) ≡ Some l.uuid;
  steps : (parts_view l.image.parts).steps ≡ (parts_view l.fn.image.parts).steps;
  faults : g.D.Disk.faults l.image.disk ≡ g.D.Disk.faults l.fn.image.disk;
}

abbrev pub decreases-loop : goal.decreases-loop
decreases-loop g l = total_of (parts_view l.image.parts).commit - done_of (parts_view l.image.parts).commit
