use Rattle.std.proofs.Common.{◌≡◌, ◌+◌, ◌-◌, ◌*◌, ◌≤◌, min, [], vec_len}
use Rattle.image_core.specs.Parts.{parts_view}
use Rattle.image_core.specs.Seen.{IsImage, seen}
use Rattle.image_commands.specs.ImageSteps.{Adds, WritesSectors}
use Rattle.image_commands.proofs.copying.copy_sectors.Given as goal

abbrev pub invariant-loop-done : goal.invariant-loop-done
invariant-loop-done g l = record {
  standing : IsImage (seen g.D.Disk l.image);
  adds : Adds [] (record { tells = g.D.Disk.tells; state = g.D.Disk.state l.fn.image.disk; faults = g.D.Disk.faults l.fn.image.disk; parts = l.fn.image.parts })
      (record { tells = g.D.Disk.tells; state = g.D.Disk.state l.image.disk; faults = g.D.Disk.faults l.image.disk; parts = l.image.parts });
  writes : WritesSectors (record { tells = g.D.Disk.tells; state = g.D.Disk.state l.fn.image.disk; faults = g.D.Disk.faults l.fn.image.disk; parts = l.fn.image.parts })
      (g.S.Shelf.files l.fn.shelf) l.at l.done (g.B.Sink.written l.fn.out) (g.B.Sink.written l.out);
  lowers : (parts_view l.image.parts).lowers ≡ (parts_view l.fn.image.parts).lowers;
  sectors : (parts_view l.image.parts).sectors ≡ (parts_view l.fn.image.parts).sectors;
  stepped : (parts_view l.image.parts).steps ≤ (parts_view l.fn.image.parts).steps + l.done;
  within : l.done ≤ l.count;
  room : vec_len l.buffer ≡ min l.count 2048 * 512;
  files : g.S.Shelf.files l.shelf ≡ g.S.Shelf.files l.fn.shelf;
  count : g.S.Shelf.count l.shelf ≡ g.S.Shelf.count l.fn.shelf;
  faults : g.D.Disk.faults l.image.disk ≡ g.D.Disk.faults l.fn.image.disk;
  shelf_faults : g.S.Shelf.faults l.shelf ≡ g.S.Shelf.faults l.fn.shelf;
  sink_faults : g.B.Sink.faults l.out ≡ g.B.Sink.faults l.fn.out;
}

abbrev pub decreases-loop-done : goal.decreases-loop-done
decreases-loop-done g l = l.count - l.done
