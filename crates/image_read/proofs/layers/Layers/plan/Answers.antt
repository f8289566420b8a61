use Rattle.std.proofs.Common.{◌&&◌, ◌∙◌, is_some}
use Rattle.std.specs.Arc.{arc_value}
use Rattle.flat_image.specs.History.{committed}
use Rattle.image_read.proofs.Filling.{plan-later, later-counted, all-there}
use Rattle.image_read.proofs.layers.Layers.plan.Goals as goal

pub returns-clause-plan : goal.returns-clause-plan
returns-clause-plan g c = c.plan-planned.ensures.plan (g.D.Disk.tells && is_some (g.S.Shelf.files c.args.self.now.shelf)) (g.S.Shelf.faults c.args.self.now.shelf)

pub returns-clause-cause : goal.returns-clause-cause
returns-clause-cause g c = c.plan-planned.ensures.cause (g.D.Disk.tells && is_some (g.S.Shelf.files c.args.self.now.shelf)) (g.S.Shelf.faults c.args.self.now.shelf)

pub returns-clause-worn : goal.returns-clause-worn
returns-clause-worn g c = c.plan-planned.ensures.worn (g.D.Disk.tells && is_some (g.S.Shelf.files c.args.self.now.shelf)) (g.S.Shelf.faults c.args.self.now.shelf)

pub invariant_of-self : goal.invariant_of-self
invariant_of-self g c =
    let later = plan-later c.plan-planned.result _ _ g.D.Disk.tells c.args.extent c.args.out.now c.plan-planned.new.out c.plan-planned.new.gaps arc_value (c.plan-planned.ensures.plan (g.D.Disk.tells && is_some (g.S.Shelf.files c.args.self.now.shelf)) (g.S.Shelf.faults c.args.self.now.shelf)) in
    record {
      seat_is = record { lock_is = c.plan-planned.ensures.same.lock ∙ c.args.self.now.seat_is.lock_is; idle = c.plan-planned.ensures.same.idle };
      count_is = c.args.self.now.count_is;
      files_are = c.args.self.now.files_are;
      counted = later-counted _ _ later c.args.self.now.counted;
      still_there = all-there (committed c.args.self.now.image.now.base c.plan-planned.new.seat.seen) c.committed_by.result.value c.committed_by.ensures;
    }
