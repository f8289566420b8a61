use Rattle.std.proofs.Common.{◌&&◌, ◌∙◌, is_some}
use Rattle.flat_image.specs.declared.act.Act.TheVariants.{Zero}
use Rattle.image_read.proofs.Filling.{change-later, later-counted, later-there}
use Rattle.image_read.proofs.layers.Layers.zero.Goals as goal

pub returns-clause-zero : goal.returns-clause-zero
returns-clause-zero g c = c.zero.ensures.zero (g.D.Disk.tells && is_some (g.S.Shelf.files c.args.self.now.shelf)) (g.S.Shelf.faults c.args.self.now.shelf)

pub returns-clause-cause : goal.returns-clause-cause
returns-clause-cause g c = c.zero.ensures.cause (g.D.Disk.tells && is_some (g.S.Shelf.files c.args.self.now.shelf)) (g.S.Shelf.faults c.args.self.now.shelf)

pub returns-clause-worn : goal.returns-clause-worn
returns-clause-worn g c = c.zero.ensures.worn (g.D.Disk.tells && is_some (g.S.Shelf.files c.args.self.now.shelf)) (g.S.Shelf.faults c.args.self.now.shelf)

pub invariant_of-self : goal.invariant_of-self
invariant_of-self g c =
    let later = change-later c.zero.result _ _ (Zero c.args.extent.at c.args.extent.count) (c.zero.ensures.zero (g.D.Disk.tells && is_some (g.S.Shelf.files c.args.self.now.shelf)) (g.S.Shelf.faults c.args.self.now.shelf)) in
    record {
      seat_is = record { lock_is = c.zero.ensures.same.lock ∙ c.args.self.now.seat_is.lock_is; idle = c.zero.ensures.same.idle };
      count_is = c.args.self.now.count_is;
      files_are = c.args.self.now.files_are;
      counted = later-counted _ _ later c.args.self.now.counted;
      still_there = later-there _ _ c.args.self.now.done.value later c.args.self.now.still_there;
    }
