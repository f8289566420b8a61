use Rattle.std.proofs.Common.{◌≡◌, ◌*◌, ◌^◌, ◌<◌, ◌≤◌}
use Rattle.image_core.specs.Parts.{parts_view}
use Rattle.image_core.specs.Seen.{IsImage, seen}
use Rattle.image_commands.specs.Images.{entries}
use Rattle.image_commands.specs.ImageSteps.{Adds}
use Rattle.image_make.specs.Draws.{state_after}
use Rattle.image_make.specs.Acts.{made_acts, tally_of}
use Rattle.image_make.proofs.acting.do_acts.Given as goal

abbrev pub invariant-loop-number : goal.invariant-loop-number
invariant-loop-number g l = record {
  state : l.state ≡ state_after l.seed (3 * l.number);
  below : l.state < 2 ^ 31;
  tally : l.tally ≡ tally_of l.seed l.number;
  adds : Adds (entries (made_acts l.seed l.number)) (seen g.D.Disk l.fn.image) (seen g.D.Disk l.image);
  standing : IsImage (seen g.D.Disk l.image);
  stepped : (parts_view l.image.parts).steps ≤ 2 * l.number;
  faults : g.D.Disk.faults l.image.disk ≡ g.D.Disk.faults l.fn.image.disk;
}
