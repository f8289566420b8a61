use Rattle.std.proofs.Common.{◌&&◌, ◌∙◌, is_some}
use Rattle.flat_image.specs.declared.act.Act.TheVariants.{Write}
use Rattle.image_read.proofs.Filling.{change-later, later-counted, later-there}
use Rattle.image_read.proofs.layers.Layers.write.Goals as goal

pub returns-clause-write : goal.returns-clause-write
returns-clause-write g c = c.write.ensures.write (g.D.Disk.tells && is_some (g.S.Shelf.files c.args.self.now.shelf)) (g.S.Shelf.faults c.args.self.now.shelf)

pub returns-clause-cause : goal.returns-clause-cause
returns-clause-cause g c = c.write.ensures.cause (g.D.Disk.tells && is_some (g.S.Shelf.files c.args.self.now.shelf)) (g.S.Shelf.faults c.args.self.now.shelf)

pub returns-clause-worn : goal.returns-clause-worn
returns-clause-worn g c = c.write.ensures.worn (g.D.Disk.tells && is_some (g.S.Shelf.files c.args.self.now.shelf)) (g.S.Shelf.faults c.args.self.now.shelf)

pub invariant_of-self : goal.invariant_of-self
invariant_of-self g c =
    let later = change-later c.write.result _ _ (Write c.args.extent.at c.args.bytes.now) (c.write.ensures.write (g.D.Disk.tells && is_some (g.S.Shelf.files c.args.self.now.shelf)) (g.S.Shelf.faults c.args.self.now.shelf)) in
    record {
      seat_is = record { lock_is = c.write.ensures.same.lock ∙ c.args.self.now.seat_is.lock_is; idle = c.write.ensures.same.idle };
      count_is = c.args.self.now.count_is;
      files_are = c.args.self.now.files_are;
      counted = later-counted _ _ later c.args.self.now.counted;
      still_there = later-there _ _ c.args.self.now.done.value later c.args.self.now.still_there;
    }
