use Rattle.std.proofs.Common.{◌&&◌, ◌∙◌, is_some, refl}
use Rattle.sector_extent.specs.CauseLaws.{calm_ok}
use Rattle.image_read.proofs.Filling.{peek-later, later-counted, later-there}
use Rattle.image_read.proofs.Layering.{shelf-reads, shelf-fails, peek-on, peek-off}
use Rattle.image_read.proofs.layers.LayersLayerSource.read_sectors.Goals as goal

pub invariant_of-self : goal.invariant_of-self
invariant_of-self g c =
    let later = peek-later c.peek.result _ _ (c.peek.ensures.peek (g.D.Disk.tells && is_some (g.S.Shelf.files c.args.self.now.shelf)) (g.S.Shelf.faults c.args.self.now.shelf)) in
    record {
      seat_is = record { lock_is = c.peek.ensures.same.lock ∙ c.args.self.now.seat_is.lock_is; idle = c.peek.ensures.same.idle };
      count_is = c.args.self.now.count_is;
      files_are = c.args.self.now.files_are;
      counted = later-counted _ _ later c.args.self.now.counted;
      still_there = later-there _ _ c.args.self.now.done.value later c.args.self.now.still_there;
    }

pub returns-then-layer-lowers-clause-reads : goal.returns-then-layer-lowers-clause-reads
returns-then-layer-lowers-clause-reads g c =
    peek-on _ _ c.peek.result (c.peek.ensures.peek (g.D.Disk.tells && is_some (g.S.Shelf.files c.args.self.now.shelf)) (g.S.Shelf.faults c.args.self.now.shelf))
    (c.peek.ensures.cause (g.D.Disk.tells && is_some (g.S.Shelf.files c.args.self.now.shelf)) (g.S.Shelf.faults c.args.self.now.shelf))

pub returns-then-layer-lowers-clause-fails : goal.returns-then-layer-lowers-clause-fails
returns-then-layer-lowers-clause-fails g c =
    peek-off _ _ c.peek.result (c.peek.ensures.peek (g.D.Disk.tells && is_some (g.S.Shelf.files c.args.self.now.shelf)) (g.S.Shelf.faults c.args.self.now.shelf))
    (c.peek.ensures.cause (g.D.Disk.tells && is_some (g.S.Shelf.files c.args.self.now.shelf)) (g.S.Shelf.faults c.args.self.now.shelf))

pub returns-in-Ok-clause-reads : goal.returns-in-Ok-clause-reads
returns-in-Ok-clause-reads g c =
    shelf-reads g.D.Disk.tells c.args.self.now.image.now c.args.self.now.seat _ _ _ _ c.in-Ok.ensures.same.files
    (calm_ok g.S.Shelf.faults c.args.self.now.shelf c.read.new.self c.in-Ok.ensures.cause)

pub returns-in-Err-clause-fails : goal.returns-in-Err-clause-fails
returns-in-Err-clause-fails g c =
    shelf-fails g.D.Disk.tells c.args.self.now.image.now c.args.self.now.seat _ _ _ _ c.in-Err.ensures.same.files (c.in-Err.ensures.cause.failed refl)
