use Rattle.disk_layer.proofs.Resting.{rests-on}
use Rattle.disk_layer.proofs.file_shelf.FileShelfShelf.length.Goals as goal

pub invariant_of-self : goal.invariant_of-self
invariant_of-self g c =
    rests-on c.self.inside.file g.M.Moment.was (g.D.Disk.state c.self.inside.disk) (g.D.Disk.state c.size.new.self) c.self.invariant
    (g.met.D.Disk.now_at c.self.inside.disk) c.size.ensures.steps
